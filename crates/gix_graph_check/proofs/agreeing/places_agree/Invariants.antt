use Rattle.std.proofs.Common.{length, drop}
use Rattle.gix_commitgraph.specs.GraphCommit.{row_of_commit}
use Rattle.gix_graph_check.proofs.Places.{AreWithin}
use Rattle.gix_graph_check.proofs.Agreement.{IsLeftToAgree}
use Rattle.gix_graph_check.proofs.agreeing.places_agree.Given as goal

abbrev pub invariant-loop-id : goal.invariant-loop-id
invariant-loop-id l = record {
  left : IsLeftToAgree l.graph l.generation l.ids (row_of_commit l.commit).parents (drop l.id-index l.ids) l.places;
  within : AreWithin (length l.graph) l.places;
}
