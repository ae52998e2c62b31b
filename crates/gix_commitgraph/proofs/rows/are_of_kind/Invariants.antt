use Rattle.std.proofs.Common.{ℕ, ◌<◌, get_or}
use Rattle.gix_commitgraph.proofs.Common.{Row, row_seen, IsRowOf}
use Rattle.gix_commitgraph.proofs.rows.are_of_kind.Given as goal

abbrev pub invariant-loop-row : goal.invariant-loop-row
invariant-loop-row l = (k : ℕ) (d : Row) → k < l.row-index → IsRowOf l.kind (row_seen (get_or l.rows k d))
