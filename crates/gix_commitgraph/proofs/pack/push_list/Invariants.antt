use Rattle.std.proofs.Common.{◌≡◌, ◌++◌, length, map, slice_index, w32, flat_map}
use Rattle.gix_commitgraph.proofs.Common.{to_be_bytes, AllByRecursion, overflow_of, IsPlaceAmong, moved}
use Rattle.gix_commitgraph.proofs.Packed.Writing.{rest_words}
use Rattle.gix_commitgraph.proofs.pack.push_list.Given as goal

-- what is written, with the words of what is left, is the whole
abbrev pub invariant-loop-left : goal.invariant-loop-left
invariant-loop-left l = record {
  among : AllByRecursion (IsPlaceAmong (length l.numbers)) l.left;
  written : l.out.items ++ flat_map (to_be_bytes w32) (rest_words (map (moved (slice_index l.numbers)) l.left)) ≡ l.fn.out.items ++ flat_map (to_be_bytes w32) (overflow_of (map (moved (slice_index l.numbers)) l.parents));
}

abbrev pub decreases-loop-left : goal.decreases-loop-left
decreases-loop-left l = length l.left
