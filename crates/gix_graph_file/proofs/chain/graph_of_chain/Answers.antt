use Rattle.std.proofs.Common.{◌≡◌, length, arith}
use Rattle.gix_graph_file.proofs.Common.{err_from_is_err_and, rows_seen, files_seen}
use Rattle.gix_graph_file.proofs.ChainLayers.{refused}
use Rattle.gix_graph_file.proofs.ChainOfOne.{one-has}
use Rattle.gix_graph_file.proofs.ChainWithin.{rows-refused}
use Rattle.gix_graph_file.proofs.chain.graph_of_chain.Goals as goal

pub returns-in_err-rows-clause-fault : goal.returns-in_err-rows-clause-fault
returns-in_err-rows-clause-fault c =
    let p = err_from_is_err_and c.from_residual.result c.from_residual.ensures.1 in
    rw (p.1, p.2) (refused _ _ c.in_err-rows.ensures.fault)

pub returns-in-Err-new-clause-fault : goal.returns-in-Err-new-clause-fault
returns-in-Err-new-clause-fault c =
    rows-refused (files_seen c.args.layers.now) (rows_seen c.in_ok-rows.rows.items) c.in-Err-new.error _ c.of_rows.ensures c.in_ok-rows.ensures.rows c.in-Err-new.ensures.refused

pub returns-in-Ok-clause-rows : goal.returns-in-Ok-clause-rows
returns-in-Ok-clause-rows c =
    let one : length c.args.layers.now ≡ 1 = omega (arith, c.in-len1.len_at_least, c.in-len1.len_below) in
    one-has c.args.layers.now _ c.in-Ok.graph one c.in-Ok.ensures.rows.0 c.in-Ok.ensures.rows.1
