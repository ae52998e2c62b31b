use Rattle.std.proofs.Common.{◌++◌, ◌∷◌, [], List, sym, ap, ◌∙◌}
use Rattle.gix_commitgraph.proofs.Common.{Entry}
use Rattle.gix_commitgraph.proofs.Packed.EntryOrder.{entries_more}
use Rattle.gix_commitgraph.proofs.order.entries.Goals as goal

pub loop-place-preserved : goal.loop-place-preserved
loop-place-preserved c =
    let row = c.index-rows-place.result in
    c.in_ok-push.ensures.items ∙ ap (λ (x : List Entry). x ++ (row.id, c.loop-place.place) ∷ []) c.loop-place.invariant ∙ sym (entries_more c.args.rows.now c.loop-place.place row c.loop-place-test.true c.index-rows-place.is)
