use Rattle.std.proofs.Common.{◌≡◌, ◌≢◌, ◌<◌, Some, All, length, slice_get, get_or, below_more, subst, sym, ap, ◌∙◌, arith}
use Rattle.std.proofs.lemmas.Option.{get_or_from_slice_get, slice_get-get_or, slice_get_within}
use Rattle.gix_statement.specs.WholeStatement.{Row}
use Rattle.gix_graph_pages.specs.PagedRows.{InEachLayer}
use Rattle.gix_graph_pages.specs.declared.layout.Layout.{Layout}
use Rattle.gix_graph_pages.proofs.ReadRows.{all_layers, found}
use Rattle.gix_graph_pages.proofs.part.has_no_row.Goals as goal

pub loop-layout-preserved : goal.loop-layout-preserved
loop-layout-preserved g c = below_more _ _ c.loop-layout.invariant
    (λ d. subst (λ (l : Layout). InEachLayer c.args.pages.now l.layer (λ layers layer generation. All (λ (r : Row). r.id ≢ c.args.id.now) layer.rows))
    (get_or_from_slice_get c.args.layouts.now c.loop-layout.layout-index _ _ (slice_get-get_or c.args.layouts.now c.loop-layout.layout-index d c.loop-layout-test.true))
    (c.lacks.ensures c.if-not-lacks.false))

pub lacks-requires : goal.lacks-requires
lacks-requires g c = (c.requires.each c.loop-layout.layout-index _ (slice_get-get_or c.args.layouts.now c.loop-layout.layout-index _ c.loop-layout-test.true)).1

pub returns : goal.returns
returns g c t layers generation read = all_layers (λ (r : Row). r.id ≢ c.args.id.now) layers (λ k layer at.
    let few : k < length c.args.layouts.now = omega (arith, slice_get_within layers k layer at, read.files.count, c.requires.count) in
    let layout = found c.args.layouts.now k few in
    let is : get_or c.args.layouts.now k layout.0 ≡ layout.0 = get_or_from_slice_get c.args.layouts.now k layout.0 layout.0 layout.1 in
    c.loop-layout.invariant k (omega (arith, few, c.loop-layout-test.false)) layout.0 layers generation read layer
    (ap (λ (l : Layout). slice_get layers l.layer) is ∙ ap (slice_get layers) (c.requires.each k layout.0 layout.1).0 ∙ at))
