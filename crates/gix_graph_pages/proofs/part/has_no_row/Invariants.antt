use Rattle.std.proofs.Common.{◌≢◌, ◌<◌, ℕ, All, get_or}
use Rattle.gix_statement.specs.WholeStatement.{Row}
use Rattle.gix_graph_pages.specs.PagedRows.{InEachLayer}
use Rattle.gix_graph_pages.specs.declared.layout.Layout.{Layout}
use Rattle.gix_graph_pages.proofs.part.has_no_row.Given as goal

-- the files up to here have no such row
abbrev pub invariant-loop-layout : goal.invariant-loop-layout
invariant-loop-layout g l = (k : ℕ) → k < l.layout-index → (d : Layout) → InEachLayer l.pages (get_or l.layouts k d).layer (λ layers layer generation. All (λ (r : Row). r.id ≢ l.id) layer.rows)
