use Rattle.std.proofs.Common.{ℕ, ◌<◌}
use Rattle.gix_commitgraph.specs.Rows.{row_at}
use Rattle.gix_revwalk.specs.Agreeing.{RowAgrees}
use Rattle.gix_graph_check.proofs.agreeing.check.Given as goal

abbrev pub invariant-loop-number : goal.invariant-loop-number
invariant-loop-number g l = (n : ℕ) → n < l.number → RowAgrees (g.F.Find.objects l.store) l.graph (row_at l.graph n)
