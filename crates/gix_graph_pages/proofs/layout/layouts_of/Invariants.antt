use Rattle.std.proofs.Common.{◌≡◌, ◌<◌, ℕ, List, length, take, slice_get, Some}
use Rattle.gix_graph_pages.specs.GraphPages.{all_rows}
use Rattle.gix_graph_pages.specs.NamedBelow.{HaveAll, NamesBelow}
use Rattle.gix_graph_pages.specs.PagedRows.{HasHead, InEachGraph, IsLayoutOf}
use Rattle.gix_graph_pages.specs.declared.layout.Layout.{Layout}
use Rattle.gix_graph_pages.proofs.layout.layouts_of.Given as goal

-- the layouts of the files up to here, and how many rows these have
abbrev pub invariant-loop-layer : goal.invariant-loop-layer
invariant-loop-layer g l = record {
  count : length l.layouts.items ≡ l.layer;
  start : InEachGraph l.pages (λ layers generation. length (all_rows (take l.layer layers)) ≡ l.start);
  each : (k : ℕ) (layout : Layout) → slice_get l.layouts.items k ≡ Some layout → (layout.layer ≡ k) × IsLayoutOf l.pages layout;
  heads : (k : ℕ) (layout : Layout) → slice_get l.layouts.items k ≡ Some layout → HasHead l.pages layout;
  named : (files : List (List ℕ)) → HaveAll l.pages files → (k : ℕ) (file : List ℕ) → k < l.layer → slice_get files k ≡ Some file → NamesBelow (take k files) file;
}
