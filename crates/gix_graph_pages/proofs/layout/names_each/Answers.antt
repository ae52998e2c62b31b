use Rattle.std.proofs.Common.{◌≡◌, ◌<◌, get_or, length, below_more, subst, arith}
use Rattle.std.proofs.lemmas.Option.{get_or_from_slice_get, slice_get-get_or, slice_get_within}
use Rattle.gix_graph_pages.specs.PagedRows.{NamesHash}
use Rattle.gix_graph_pages.proofs.layout.names_each.Goals as goal

pub loop-lower-preserved : goal.loop-lower-preserved
loop-lower-preserved g c = below_more _ _ c.loop-lower.invariant
    (λ d. subst (NamesHash c.args.pages.now c.args.layout.now)
    (get_or_from_slice_get c.args.below.now c.loop-lower.lower-index _ _ (slice_get-get_or c.args.below.now c.loop-lower.lower-index d c.loop-lower-test.true))
    (c.names.ensures c.if-not-names.false))

pub returns : goal.returns
returns g c t k lower at =
    let few : k < length c.args.below.now = slice_get_within c.args.below.now k lower at in
    subst (NamesHash c.args.pages.now c.args.layout.now) (get_or_from_slice_get c.args.below.now k lower lower at) (c.loop-lower.invariant k (omega (arith, few, c.loop-lower-test.false)) lower)
