use Rattle.std.proofs.Common.{◌≡◌, Ok, Err, ap, subst, sym, ◌∙◌}
use Rattle.gix_commitgraph.specs.Packed.{spelling}
use Rattle.gix_commitgraph.proofs.Common.{AreGraphRows, IsPackedAs, read_packed, rows_in}
use Rattle.gix_commitgraph.proofs.Packed.Whole.{packed_again}
use Rattle.gix_commitgraph.proofs.Graph.from_packed.Goals as goal

pub invariant_of-result : goal.invariant_of-result
invariant_of-result c = subst (λ bytes. IsPackedAs bytes c.in-Ok.layout (rows_in (read_packed bytes))) (c.as_slice.ensures.value ∙ sym c.new-packed.ensures) c.in-Ok.ensures.0

pub returns-in-Ok-clause-found : goal.returns-in-Ok-clause-found
returns-in-Ok-clause-found c =
    subst (λ bytes. AreGraphRows (rows_in (read_packed bytes)) × (c.args.packed.items ≡ spelling (rows_in (read_packed bytes)))) (sym c.new-packed.ensures)
    (rw (← c.as_slice.ensures.value) (c.in-Ok.ensures.0.sound, c.in-Ok.ensures.0.spelled))

pub returns-in-Ok-clause-only : goal.returns-in-Ok-clause-only
returns-in-Ok-clause-only c = λ rows sound spelled. ap Ok (ap rows_in (ap read_packed (c.new-packed.ensures ∙ spelled) ∙ packed_again rows sound))

pub returns-in-Err-clause-only : goal.returns-in-Err-clause-only
returns-in-Err-clause-only c =
    λ rows sound spelled.
    let read : read_packed c.args.packed.items ≡ Ok rows = ap read_packed spelled ∙ packed_again rows sound in
    let refused : read_packed c.args.packed.items ≡ Err c.in-Err.place = rw (← c.as_slice.ensures.value) c.in-Err.ensures in
    absurd cc
