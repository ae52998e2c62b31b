use Rattle.std.proofs.Common.{length, List, subst, sym}
use Rattle.gix_commitgraph.proofs.Common.{AllByRecursion, ParentPlace, IsPlaceAmong}
use Rattle.gix_commitgraph.proofs.Packed.RowsArranged.{reads_entry}
use Rattle.gix_commitgraph.proofs.pack.push_lists.Goals as goal

pub push_list-requires-clause-places : goal.push_list-requires-clause-places
push_list-requires-clause-places c =
    let read = reads_entry c.args.rows.now c.args.order.now c.args.numbers.now c.loop-place.place-index _ c.index-rows-place.result c.requires c.loop-place-test.true c.index-rows-place.is in
    subst (λ (x : List ParentPlace). AllByRecursion (IsPlaceAmong (length c.args.numbers.now)) x) (sym c.as_slice.ensures) read.among
