use Rattle.std.proofs.Common.{sym, ap, ◌∙◌}
use Rattle.gix_graph_pages.specs.PagedRows.{IsAbove}
use Rattle.gix_words.specs.declared.words.Order.TheVariants.{Topo}
use Rattle.gix_paged_commands.proofs.Drawing.{begins, not_empty}
use Rattle.gix_paged_commands.proofs.decided.begins_above.Goals as goal

pub returns : goal.returns
returns g c = begins (IsAbove c.args.line.now.pages.now c.args.line.now.graph.now c.args.line.now.least) _ _ c.args.list.0 c.args.list.1 c.args.tips.now c.args.hidden.now _ _ c.in-Topo-default.sorting c.in_ok-walk.walk c.in-Some.count
    (c.in-Topo-default.is-0 ∙ ap (λ m. Topo m c.in-Topo-default.sorting) c.in-All.is) c.in_ok-ends.ensures.0 c.in_ok-ends.ensures.1
    (not_empty c.args.tips.now (sym c.is_empty.ensures ∙ c.if-is_empty.false)) (c.are_all_above.ensures c.if-not-are_all_above.false) c.in-Some.ensures c.in_ok-walk.ensures.ok c.gives_first_above.result c.gives_first_above.ensures
