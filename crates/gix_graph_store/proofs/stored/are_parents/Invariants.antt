use Rattle.std.proofs.Common.{length, drop}
use Rattle.gix_commitgraph.specs.GraphCommit.{row_of_commit}
use Rattle.gix_revwalk.specs.RowParents.{ids_at}
use Rattle.gix_graph_check.proofs.Places.{AreWithin}
use Rattle.gix_graph_store.proofs.StoredCommits.{IsLeft}
use Rattle.gix_graph_store.proofs.stored.are_parents.Given as goal

abbrev pub invariant-loop-id : goal.invariant-loop-id
invariant-loop-id l = record {
  left : IsLeft l.graph (ids_at l.graph (row_of_commit l.commit).parents) l.ids (drop l.id-index l.ids) l.places;
  within : AreWithin (length l.graph) l.places;
}
