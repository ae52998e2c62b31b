use Rattle.std.proofs.Common.{◌≡◌, ◌++◌, All, drop}
use Rattle.gix_commitgraph.specs.Packed.{AreBytes}
use Rattle.gix_graph_file.specs.ChainSteps.{files_seen, layers_seen}
use Rattle.gix_graph_file.proofs.owned.lend.Given as goal

-- the layers that were lent, which are bytes, followed by those that are left, are all layers
abbrev pub invariant-loop-layer : goal.invariant-loop-layer
invariant-loop-layer l = (files_seen l.files.items ++ layers_seen (drop l.layer-index l.layers) ≡ layers_seen l.layers) × All AreBytes (files_seen l.files.items)
