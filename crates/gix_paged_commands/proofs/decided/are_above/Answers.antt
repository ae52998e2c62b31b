use Rattle.std.proofs.Common.{sym, ◌∙◌}
use Rattle.gix_graph_pages.specs.PagedRows.{IsAbove}
use Rattle.gix_paged_commands.proofs.Drawing.{draws, not_empty}
use Rattle.gix_paged_commands.proofs.decided.are_above.Goals as goal

pub returns : goal.returns
returns g c = draws (IsAbove c.args.line.now.pages.now c.args.line.now.graph.now c.args.line.now.least) _ _ c.args.tips.now c.args.hidden.now _ _ c.in_ok-walk.walk c.in_ok-ends.ensures.0 c.in_ok-ends.ensures.1
    (not_empty c.args.tips.now (sym c.is_empty.ensures ∙ c.if-is_empty.false)) (not_empty c.args.hidden.now (sym c.is_empty-else-is_empty.ensures ∙ c.if-is_empty-2.false)) c.in_ok-walk.ensures.ok c.gives_above.result c.gives_above.ensures
