use Rattle.std.proofs.Common.{◌≡◌, None, Some, arith}
use Rattle.std.proofs.lemmas.Result.{err_from_is_err_and}
use Rattle.gix_commitgraph.proofs.Common.{read_packed, rows_in, faults}
use Rattle.gix_commitgraph.proofs.Packed.Steps.{no_fault, one_fault, faults-laid_out, ok_rows}
use Rattle.gix_commitgraph.proofs.Packed.Read.{laid_out_takes}
use Rattle.gix_commitgraph.proofs.check.check.Goals as goal

pub returns-in_err-check_rows : goal.returns-in_err-check_rows
returns-in_err-check_rows c =
    let bytes = c.args.bytes.now in
    let p = err_from_is_err_and c.from_residual-in_err-check_rows.result c.from_residual-in_err-check_rows.ensures.1 in
    let laid = faults-laid_out bytes c.in_ok-layout.layout c.row_len.result c.in_ok-layout.ensures c.row_len.ensures in
    let found : faults (read_packed bytes) ≡ Some c.in_err-check_rows.field-0.0 = cc (laid, c.in_err-check_rows.ensures) in
    rw (p.1, p.2) (one_fault (read_packed bytes) c.in_err-check_rows.field-0.0 found)

pub returns : goal.returns
returns c =
    let bytes = c.args.bytes.now in
    let laid = faults-laid_out bytes c.in_ok-layout.layout c.row_len.result c.in_ok-layout.ensures c.row_len.ensures in
    let found : faults (read_packed bytes) ≡ None = cc (laid, c.in_ok-check_rows.ensures) in
    let ok = no_fault (read_packed bytes) found in
    (laid_out_takes bytes c.in_ok-layout.layout (rows_in (read_packed bytes)) (λ i. omega (arith, c.type_inv.bytes i)) c.in_ok-layout.ensures (ok_rows (read_packed bytes) ok), ok)
