use Rattle.std.proofs.Common.{List, Result, subst}
use Rattle.gix_graph_file.proofs.Common.{GraphRow, GraphError, rows_of}
use Rattle.gix_graph_file.proofs.SameFile.{Opens, opens-parts}
use Rattle.gix_graph_file.proofs.graph_of_packed.Goals as goal

pub returns-in-Ok-clause-rows : goal.returns-in-Ok-clause-rows
returns-in-Ok-clause-rows c =
    (c.in-Ok.ensures.found.0, λ p whole packed_is. subst (λ (r : Result (List GraphRow) GraphError). Opens r (rows_of p)) c.in-Ok.is (opens-parts c.args.packed.items p c.from_packed.result whole packed_is c.from_packed.ensures.exact))

pub returns-in-Err-clause-fault : goal.returns-in-Err-clause-fault
returns-in-Err-clause-fault c = λ p whole packed_is.
    let fault = subst (λ (r : Result (List GraphRow) GraphError). Opens r (rows_of p)) c.in-Err.is (opens-parts c.args.packed.items p c.from_packed.result whole packed_is c.from_packed.ensures.exact) in
    rw c.fault_of.ensures fault
