use Rattle.std.proofs.Common.{ℕ, ◌<◌, get_or, length}
use Rattle.gix_commitgraph.proofs.Common.{AllByRecursion, Row, IsPlaceAmong}
use Rattle.gix_commitgraph.proofs.rows.have_places_within.Given as goal

abbrev pub invariant-loop-row : goal.invariant-loop-row
invariant-loop-row l = (k : ℕ) (d : Row) → k < l.row-index → AllByRecursion (IsPlaceAmong (length l.rows)) (get_or l.rows k d).parents.items
