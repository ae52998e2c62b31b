use Rattle.std.proofs.Common.{◌≡◌, ◌+◌, length}
use Rattle.gix_graph_file.proofs.Common.{chain_from, read_chain, below_seen, files_seen}
use Rattle.gix_graph_file.proofs.chain.rows_of.Given as goal

-- reading the layers that are left finds what reading all finds
abbrev pub invariant-loop-left : goal.invariant-loop-left
invariant-loop-left l = record {
  read : chain_from l.number (below_seen l.below) (files_seen l.left) ≡ read_chain (files_seen l.layers);
  count : l.number + length l.left ≡ length l.layers;
}

abbrev pub decreases-loop-left : goal.decreases-loop-left
decreases-loop-left l = length l.left
