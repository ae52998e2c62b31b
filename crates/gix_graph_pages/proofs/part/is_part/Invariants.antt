use Rattle.std.proofs.Common.{◌<◌, ℕ}
use Rattle.gix_commitgraph.specs.Rows.{row_at}
use Rattle.gix_graph_pages.specs.PagedRows.{InEachGraph, IsRowOfFile}
use Rattle.gix_graph_pages.specs.GraphPages.{all_rows}
use Rattle.gix_graph_pages.proofs.part.is_part.Given as goal

-- each row up to here is such a row
abbrev pub invariant-loop-row : goal.invariant-loop-row
invariant-loop-row g l = (k : ℕ) → k < l.row → InEachGraph l.pages (λ layers generation. IsRowOfFile l.least l.graph (all_rows layers) generation (row_at l.graph k))
