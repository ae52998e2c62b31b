use Rattle.std.proofs.Common.{ℕ, ◌<◌, get_or}
use Rattle.gix_commitgraph.proofs.Common.{ParentPlace, IsPlaceAmong}
use Rattle.gix_commitgraph.proofs.rows.are_among.Given as goal

abbrev pub invariant-loop-place : goal.invariant-loop-place
invariant-loop-place l = (k : ℕ) (d : ParentPlace) → k < l.place-index → IsPlaceAmong l.count (get_or l.places k d)
