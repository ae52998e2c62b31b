use Rattle.std.proofs.Common.{◌≡◌, map, take}
use Rattle.serde_json.specs.View.{view}
use Rattle.gix_certificate.specs.Written.{text_data}
use Rattle.gix_certificate.proofs.value.words_value.Given as goal

-- each value says what is said of the word of its place
abbrev pub invariant-words : goal.invariant-words
invariant-words l = map view l.values.items ≡ map text_data (take l.word-index l.words)
