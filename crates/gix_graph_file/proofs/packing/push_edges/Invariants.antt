use Rattle.std.proofs.Common.{◌≡◌, ◌++◌, length, w32, flat_map}
use Rattle.gix_graph_file.proofs.Common.{to_be_bytes, words_packed}
use Rattle.gix_graph_file.proofs.packing.push_edges.Given as goal

-- what is written, and then the words that are left, is what there was, and then all words
abbrev pub invariant-loop-left : goal.invariant-loop-left
invariant-loop-left l = l.out.items ++ flat_map (to_be_bytes w32) (words_packed l.rows l.left) ≡ l.fn.out.items ++ flat_map (to_be_bytes w32) (words_packed l.rows l.edges)

abbrev pub decreases-loop-left : goal.decreases-loop-left
decreases-loop-left l = length l.left
