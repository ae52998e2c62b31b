use Rattle.std.proofs.Common.{◌≡◌, ◌<◌, ◌≤◌, ◌+◌, All, IfOk, length}
use Rattle.gix_revwalk.proofs.Common.{row_of_commit, ids_at}
use Rattle.gix_revwalk.proofs.Rows.{answered_ids, behind}
use Rattle.gix_revwalk.proofs.row.row_parents.Given as goal

-- the ids that were read and those that are left are all, and one id takes no memory
abbrev pub invariant-loop-place : goal.invariant-loop-place
invariant-loop-place l = record {
  ids : behind l.parent_ids.items (answered_ids l.graph l.places) ≡ ids_at l.graph (row_of_commit l.commit).parents;
  counted : length l.parent_ids.items + length l.places ≡ length (row_of_commit l.commit).parents;
  inline : 1 ≤ l.parent_ids.capacity;
  within : All (λ answer. IfOk answer (λ position. position.0 < length l.graph)) l.places;
}

abbrev pub decreases-loop-place : goal.decreases-loop-place
decreases-loop-place l = length l.places
