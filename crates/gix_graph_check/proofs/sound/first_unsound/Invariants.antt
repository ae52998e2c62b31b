use Rattle.std.proofs.Common.{ℕ, ◌<◌}
use Rattle.gix_commitgraph.specs.Rows.{row_at}
use Rattle.gix_graph_check.specs.Sound.{IsSound}
use Rattle.gix_graph_check.proofs.sound.first_unsound.Given as goal

abbrev pub invariant-loop-number : goal.invariant-loop-number
invariant-loop-number l = (n : ℕ) → n < l.number → IsSound l.graph (row_at l.graph n)
