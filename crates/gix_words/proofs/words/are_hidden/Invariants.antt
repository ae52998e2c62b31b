use Rattle.std.proofs.Common.{◌≡◌, map, drop, string_bytes}
use Rattle.std.specs.List.{list_all}
use Rattle.gix_words.specs.Words.{begins_with_caret}
use Rattle.gix_words.proofs.words.are_hidden.Given as goal

-- the words that are left say it
abbrev pub invariant-loop-id : goal.invariant-loop-id
invariant-loop-id l = list_all begins_with_caret (map string_bytes (drop l.id-index l.ids)) ≡ list_all begins_with_caret (map string_bytes l.ids)
