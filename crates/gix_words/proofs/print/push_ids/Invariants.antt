use Rattle.std.proofs.Common.{◌≡◌, ◌++◌, map, take, string_bytes}
use Rattle.std.specs.List.{AllByRecursion}
use Rattle.gix_words.specs.Printed.{IsId, id_word}
use Rattle.gix_words.proofs.print.push_ids.Given as goal

-- the words of the ids so far were added
abbrev pub invariant-loop-id : goal.invariant-loop-id
invariant-loop-id l = record {
  added : map string_bytes l.words.items ≡ map string_bytes l.initial.words.items ++ map (id_word l.mark) (take l.id-index l.ids);
  ids : AllByRecursion IsId (take l.id-index l.ids);
}
