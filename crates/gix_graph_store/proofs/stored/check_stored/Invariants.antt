use Rattle.std.proofs.Common.{ℕ, ◌<◌}
use Rattle.gix_commitgraph.specs.Rows.{row_at}
use Rattle.gix_graph_store.specs.StoredRows.{IsStoredSo}
use Rattle.gix_graph_store.proofs.stored.check_stored.Given as goal

abbrev pub invariant-loop-number : goal.invariant-loop-number
invariant-loop-number g l = (n : ℕ) → n < l.number → IsStoredSo l.graph (g.F.Find.objects l.store) (row_at l.graph n)
