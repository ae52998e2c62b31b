use Rattle.std.proofs.Common.{◌≡◌, true, false, eqb, length}
use Rattle.gix_graph_file.proofs.Common.{err_from_is_err_and, base_of, seen}
use Rattle.gix_graph_file.proofs.ChainOfOne.{one-says, one-refuses, one-fault, one-based}
use Rattle.gix_graph_file.proofs.chain.graph_of_layer.Goals as goal

pub returns-in_err-layout-clause-fault : goal.returns-in_err-layout-clause-fault
returns-in_err-layout-clause-fault c =
    let p = err_from_is_err_and c.from_residual.result c.from_residual.ensures.1 in
    rw (p.1, p.2) (λ _. one-fault c.args.file.now _ c.in_err-layout.ensures.parts)

pub returns-then-not-is_empty-clause-fault : goal.returns-then-not-is_empty-clause-fault
returns-then-not-is_empty-clause-fault c =
    let some : eqb (length (base_of c.args.file.now)) 0 ≡ false = rw (← c.base_of.ensures) (cc) in
    λ _. one-based c.args.file.now (seen c.in_ok-layout.layout) c.in_ok-layout.ensures.parts some

pub returns-clause-rows : goal.returns-clause-rows
returns-clause-rows c =
    let none : eqb (length (base_of c.args.file.now)) 0 ≡ true = rw (← c.base_of.ensures) (cc) in
    one-says c.args.file.now (seen c.in_ok-layout.layout) c.graph_of_parts.result c.in_ok-layout.ensures.parts none c.graph_of_parts.ensures.rows

pub returns-clause-fault : goal.returns-clause-fault
returns-clause-fault c =
    let none : eqb (length (base_of c.args.file.now)) 0 ≡ true = rw (← c.base_of.ensures) (cc) in
    one-refuses c.args.file.now (seen c.in_ok-layout.layout) c.graph_of_parts.result c.in_ok-layout.ensures.parts none c.graph_of_parts.ensures.fault
