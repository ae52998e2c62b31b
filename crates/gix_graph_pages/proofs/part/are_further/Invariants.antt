use Rattle.std.proofs.Common.{length}
use Rattle.gix_graph_check.proofs.Places.{AreWithin}
use Rattle.gix_graph_pages.specs.PagedRows.{AreFurtherIds, InEachLayer, ids_of_answers}
use Rattle.gix_graph_pages.specs.GraphPages.{all_rows}
use Rattle.gix_graph_pages.proofs.part.are_further.Given as goal

-- the places that are left are within, and if these are those of the words that are left, all are those of all words
abbrev pub invariant-loop-number : goal.invariant-loop-number
invariant-loop-number g l = record {
  within : AreWithin (length l.graph) l.places;
  all : InEachLayer l.pages l.layout.layer (λ layers layer generation. AreFurtherIds layer.file (all_rows layers) l.number (ids_of_answers l.graph l.places)
      → AreFurtherIds layer.file (all_rows layers) l.from (ids_of_answers l.graph l.initial.places));
}
