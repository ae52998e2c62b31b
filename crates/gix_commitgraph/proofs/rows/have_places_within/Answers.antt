use Rattle.std.proofs.Common.{length, List, subst, sym, arith}
use Rattle.gix_commitgraph.proofs.Common.{AllByRecursion, ParentPlace, IsPlaceAmong}
use Rattle.gix_commitgraph.proofs.Packed.HandedRows.{places_within, read_places}
use Rattle.gix_commitgraph.proofs.rows.have_places_within.Goals as goal

pub returns-then-not-are_among : goal.returns-then-not-are_among
returns-then-not-are_among c =
    let rows = c.args.rows.now in
    λ all. c.if-not-are_among.ensures (subst (λ (x : List ParentPlace). AllByRecursion (IsPlaceAmong (length rows)) x) (sym c.as_slice.ensures) (read_places rows c.loop-row.row-index c.row-item.result all c.loop-row-test.true c.row-item.is))

pub returns : goal.returns
returns c = places_within c.args.rows.now (λ k d lt. c.loop-row.invariant k d (omega arith))
