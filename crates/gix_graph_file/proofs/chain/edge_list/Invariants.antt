use Rattle.std.proofs.Common.{◌≡◌, length}
use Rattle.gix_graph_file.proofs.Common.{words_of, edge_list, joined}
use Rattle.gix_graph_file.proofs.chain.edge_list.Given as goal

-- the parents that are read, and then those that are left, are those that there were, and then all
abbrev pub invariant-loop-left : goal.invariant-loop-left
invariant-loop-left l = joined l.out.items (edge_list l.limit (words_of l.left)) ≡ joined l.fn.out.items (edge_list l.limit (words_of l.edges))

abbrev pub decreases-loop-left : goal.decreases-loop-left
decreases-loop-left l = length l.left
