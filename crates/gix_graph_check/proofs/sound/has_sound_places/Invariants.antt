use Rattle.std.proofs.Common.{length}
use Rattle.gix_commitgraph.specs.GraphCommit.{row_of_commit}
use Rattle.gix_graph_check.proofs.Places.{AreWithin, IsWhatIsLeft}
use Rattle.gix_graph_check.proofs.sound.has_sound_places.Given as goal

abbrev pub invariant-loop-place : goal.invariant-loop-place
invariant-loop-place l = record {
  left : IsWhatIsLeft l.graph l.generation (row_of_commit l.commit).parents l.places;
  within : AreWithin (length l.graph) l.places;
}

abbrev pub decreases-loop-place : goal.decreases-loop-place
decreases-loop-place l = length l.places
