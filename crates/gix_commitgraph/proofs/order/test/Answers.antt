use Rattle.gix_commitgraph.proofs.Common.{rows_seen}
use Rattle.gix_commitgraph.proofs.Packed.Arrangement.{not_distinct, distinct_rows}
use Rattle.gix_commitgraph.proofs.Packed.HandedRows.{are_of_one_kind}
use Rattle.gix_commitgraph.proofs.order.test.Goals as goal

pub returns-then-not-always_rise : goal.returns-then-not-always_rise
returns-then-not-always_rise c =
    let rows = rows_seen c.args.rows.now in
    (c.requires.layout.few, are_of_one_kind c.args.layout.kind rows c.requires.layout.head.kind c.requires.layout.kinds, not_distinct rows c.args.order.now c.requires.same c.requires.sorted c.if-not-always_rise.ensures)

pub returns-then-not-have_places_within : goal.returns-then-not-have_places_within
returns-then-not-have_places_within c =
    let rows = rows_seen c.args.rows.now in
    (c.requires.layout.few, are_of_one_kind c.args.layout.kind rows c.requires.layout.head.kind c.requires.layout.kinds, distinct_rows rows c.args.order.now c.requires.same c.if-not-always_rise.ensures, c.if-not-have_places_within.ensures)

pub returns : goal.returns
returns c =
    let rows = rows_seen c.args.rows.now in
    (c.if-not-always_rise.ensures, (c.requires.layout.few, are_of_one_kind c.args.layout.kind rows c.requires.layout.head.kind c.requires.layout.kinds, distinct_rows rows c.args.order.now c.requires.same c.if-not-always_rise.ensures, c.if-not-have_places_within.ensures))
