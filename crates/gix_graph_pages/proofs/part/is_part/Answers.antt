use Rattle.std.proofs.Common.{◌<◌, Some, ap, subst, ◌∙◌, arith, below_more}
use Rattle.std.proofs.lemmas.Option.{get_or_from_slice_get, slice_get-get_or}
use Rattle.gix_commitgraph.specs.Rows.{no_row}
use Rattle.gix_graph_pages.specs.PagedRows.{IsRowOfFile}
use Rattle.gix_graph_pages.proofs.part.is_part.Goals as goal
use Rattle.gix_graph_pages.specs.GraphPages.{all_rows}

pub loop-row-preserved : goal.loop-row-preserved
loop-row-preserved g c = below_more _ _ c.loop-row.invariant (c.is_row.ensures c.if-not-is_row.false)

pub returns-clause-part : goal.returns-clause-part
returns-clause-part g c t layers generation read row (k, within, is) =
    let l : k < c.loop-row.row = omega (arith, within, c.loop-row-test.false, c.num_commits-count.ensures.count) in
    subst (IsRowOfFile c.args.least c.args.graph.now (all_rows layers) generation) (get_or_from_slice_get c.args.graph.now k row no_row (slice_get-get_or c.args.graph.now k row within ∙ ap Some is)) (c.loop-row.invariant k l layers generation read)
