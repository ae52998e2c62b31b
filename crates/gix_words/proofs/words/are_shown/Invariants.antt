use Rattle.std.proofs.Common.{◌≡◌, map, drop, string_bytes}
use Rattle.std.specs.List.{list_all}
use Rattle.gix_words.specs.Words.{is_shown}
use Rattle.gix_words.proofs.words.are_shown.Given as goal

-- the words that are left say it
abbrev pub invariant-loop-id : goal.invariant-loop-id
invariant-loop-id l = list_all is_shown (map string_bytes (drop l.id-index l.ids)) ≡ list_all is_shown (map string_bytes l.ids)
