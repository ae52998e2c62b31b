use Rattle.gix_graph_file.proofs.Common.{err_from_is_err_and, seen}
use Rattle.gix_graph_file.proofs.SameFile.{parts-say, parts-refuse, parts-fault}
use Rattle.gix_graph_file.proofs.graph_of.Goals as goal

pub returns-in_err-layout-clause-fault : goal.returns-in_err-layout-clause-fault
returns-in_err-layout-clause-fault c =
    let p = err_from_is_err_and c.from_residual.result c.from_residual.ensures.1 in
    rw (p.1, p.2) (λ _. parts-fault c.args.file.now _ c.in_err-layout.ensures.parts)

pub returns-clause-rows : goal.returns-clause-rows
returns-clause-rows c = parts-say c.args.file.now (seen c.in_ok-layout.layout) c.graph_of_parts.result c.in_ok-layout.ensures.parts c.graph_of_parts.ensures.rows

pub returns-clause-fault : goal.returns-clause-fault
returns-clause-fault c = parts-refuse c.args.file.now (seen c.in_ok-layout.layout) c.graph_of_parts.result c.in_ok-layout.ensures.parts c.graph_of_parts.ensures.fault
