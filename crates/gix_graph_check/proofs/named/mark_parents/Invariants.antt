use Rattle.std.proofs.Common.{length}
use Rattle.gix_commitgraph.specs.GraphCommit.{row_of_commit}
use Rattle.gix_graph_check.specs.Heads.{names}
use Rattle.gix_graph_check.proofs.Places.{AreWithin}
use Rattle.gix_graph_check.proofs.Marking.{IsMarking, left_answers}
use Rattle.gix_graph_check.proofs.named.mark_parents.Given as goal

abbrev pub invariant-loop-place : goal.invariant-loop-place
invariant-loop-place l = record {
  marking : IsMarking (λ n. names n (row_of_commit l.commit)) (left_answers l.places) l.fn.named l.named;
  within : AreWithin (length l.fn.named) l.places;
}

abbrev pub decreases-loop-place : goal.decreases-loop-place
decreases-loop-place l = length l.places
