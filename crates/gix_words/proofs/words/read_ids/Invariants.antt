use Rattle.std.proofs.Common.{Result, Ok, Err, ◌++◌, ◌≡◌, ◌+◌, map, drop, string_bytes}
use Rattle.gix_words.specs.declared.fault.Fault.{Fault}
use Rattle.gix_words.specs.Words.{Ids, ids_from}
use Rattle.gix_words.proofs.words.read_ids.Given as goal

-- ids after others
abbrev pub behind : Ids → Result Ids Fault → Result Ids Fault
behind front (Ok ids) = Ok (front.0 ++ ids.0, front.1 ++ ids.1)
behind front (Err e) = Err e

-- the ids that were read, followed by the ids of the words that are left, are the ids of all words
abbrev pub invariant-loop-i : goal.invariant-loop-i
invariant-loop-i l = behind (l.tips.items, l.hidden.items) (ids_from (l.i + l.number) (map string_bytes (drop l.i l.words))) ≡ ids_from l.number (map string_bytes l.words)
