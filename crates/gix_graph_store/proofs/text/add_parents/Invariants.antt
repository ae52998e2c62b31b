use Rattle.std.proofs.Common.{◌≡◌, ◌<◌, All, IfOk, length}
use Rattle.gix_commitgraph.specs.GraphCommit.{row_of_commit}
use Rattle.gix_revwalk.specs.RowParents.{ids_at}
use Rattle.gix_revwalk.proofs.Rows.{answered_ids}
use Rattle.gix_graph_store.proofs.Lines.{behind_lines}
use Rattle.gix_graph_store.proofs.text.add_parents.Given as goal

-- the lines that were written and those of the places left are all
abbrev pub invariant-loop-place : goal.invariant-loop-place
invariant-loop-place l = record {
  lines : behind_lines l.text.items (answered_ids l.graph l.places) ≡ behind_lines l.fn.text.items (ids_at l.graph (row_of_commit l.commit).parents);
  within : All (λ answer. IfOk answer (λ position. position.0 < length l.graph)) l.places;
}

abbrev pub decreases-loop-place : goal.decreases-loop-place
decreases-loop-place l = length l.places
