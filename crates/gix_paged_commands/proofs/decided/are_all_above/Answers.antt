use Rattle.std.proofs.Common.{below_more, subst, arith}
use Rattle.std.proofs.lemmas.Option.{get_or_from_slice_get, slice_get-get_or}
use Rattle.gix_graph_pages.specs.PagedRows.{IsAbove}
use Rattle.gix_paged_commands.proofs.decided.are_all_above.Goals as goal

pub loop-id-preserved : goal.loop-id-preserved
loop-id-preserved g c = below_more _ _ c.loop-id.invariant
    (λ d. subst (IsAbove c.args.line.now.pages.now c.args.line.now.graph.now c.args.line.now.least)
    (get_or_from_slice_get c.args.ids.now c.loop-id.id-index _ _ (slice_get-get_or c.args.ids.now c.loop-id.id-index d c.loop-id-test.true))
    (c.is_one_above.ensures c.if-not-is_one_above.false))

pub returns : goal.returns
returns g c t i (k, within, is) =
    subst (IsAbove c.args.line.now.pages.now c.args.line.now.graph.now c.args.line.now.least) is (c.loop-id.invariant k (omega (arith, within, c.loop-id-test.false)) i)
