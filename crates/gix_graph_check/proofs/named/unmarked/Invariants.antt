use Rattle.std.proofs.Common.{◌≡◌, ◌++◌}
use Rattle.gix_graph_check.specs.Heads.{heads_of}
use Rattle.gix_graph_check.proofs.Marking.{left_heads}
use Rattle.gix_graph_check.proofs.named.unmarked.Given as goal

abbrev pub invariant-loop-number : goal.invariant-loop-number
invariant-loop-number l = l.ids.items ++ left_heads l.graph l.number ≡ heads_of l.graph
