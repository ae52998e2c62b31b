use Rattle.std.proofs.Common.{List, ap, subst, sym, ◌∙◌}
use Rattle.gix_commitgraph.proofs.Common.{GraphRow, AreGraphRows, IsPackedAs, read_packed, rows_in, rows_seen, HasSameRows}
use Rattle.gix_commitgraph.proofs.Packed.Whole.{kept_rows}
use Rattle.gix_commitgraph.proofs.Graph.new.Goals as goal

pub invariant_of-result : goal.invariant_of-result
invariant_of-result c =
    let p = c.in_ok-packed.ensures in
    subst (λ bytes. IsPackedAs bytes c.in_ok-layout.layout (rows_in (read_packed bytes))) (sym c.new-packed.ensures)
    (subst (IsPackedAs c.in_ok-packed.packed.items c.in_ok-layout.layout) (sym (kept_rows c.in_ok-packed.packed.items c.in_ok-layout.layout p.graph p.kept)) p.kept)

pub returns-clause-rows : goal.returns-clause-rows
returns-clause-rows c =
    let p = c.in_ok-packed.ensures in
    subst (λ (graph : List GraphRow). AreGraphRows graph × HasSameRows (rows_seen c.args.rows.items) graph)
    (sym (ap (λ bytes. rows_in (read_packed bytes)) c.new-packed.ensures ∙ kept_rows c.in_ok-packed.packed.items c.in_ok-layout.layout p.graph p.kept)) (p.kept.sound, rw (← c.as_slice-5.ensures.value) p.same)
