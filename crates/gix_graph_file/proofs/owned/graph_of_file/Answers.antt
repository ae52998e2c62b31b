use Rattle.std.proofs.Common.{◌≡◌, true, false, eqb, length, arith}
use Rattle.std.proofs.lemmas.Grind.{common_steps}
use Rattle.gix_graph_file.proofs.Common.{err_from_is_err_and, AreBytes, base_of, seen}
use Rattle.gix_graph_file.proofs.ChainOfOne.{one-says, one-refuses, one-fault, one-based}
use Rattle.gix_graph_file.proofs.HalfRows.{halves-file}
use Rattle.gix_graph_file.proofs.SameFile.{packed-says, packed-refuses}
use Rattle.gix_graph_file.proofs.owned.graph_of_file.Goals as goal

pub returns-in_err-layout-clause-fault : goal.returns-in_err-layout-clause-fault
returns-in_err-layout-clause-fault c =
    let p = err_from_is_err_and c.from_residual.result c.from_residual.ensures.1 in
    rw (p.1, p.2) (λ _. one-fault c.args.file.items _ (rw c.as_slice.ensures.value at c.in_err-layout.ensures.parts))

pub returns-then-not-is_empty-clause-fault : goal.returns-then-not-is_empty-clause-fault
returns-then-not-is_empty-clause-fault c =
    let some : eqb (length (base_of c.args.file.items)) 0 ≡ false = rw (← c.as_slice-2.ensures.value, ← c.base_of.ensures) (cc) in
    λ _. one-based c.args.file.items (seen c.in_ok-layout.layout) (rw c.as_slice.ensures.value at c.in_ok-layout.ensures.parts) some

pub returns : goal.returns
returns c =
    let bytes : AreBytes c.args.file.items = grind (arith, common_steps) in
    let layout = c.in_ok-layout.layout in
    let ensured = c.in_ok-layout.ensures in
    let parts = rw c.as_slice.ensures.value at ensured.parts in
    let none : eqb (length (base_of c.args.file.items)) 0 ≡ true = rw (← c.as_slice-2.ensures.value, ← c.base_of.ensures) (cc) in
    let packed_is = halves-file layout _ _ _ _ _ ensured.whole ensured.places c.as_slice.ensures.value c.lower_of-lower.ensures c.in_ok-upper.ensures c.in_ok-packed.ensures in
    record {
      rows = one-says _ _ _ parts none (packed-says _ _ c.graph_of_packed.result ensured.whole packed_is c.graph_of_packed.ensures.rows);
      fault = one-refuses _ _ _ parts none (packed-refuses _ _ c.graph_of_packed.result ensured.whole packed_is c.graph_of_packed.ensures.fault);
      bytes = bytes;
    }
