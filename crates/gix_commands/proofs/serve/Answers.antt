use Rattle.gix_commands.proofs.Common.{err_from_is_err_and}
use Rattle.gix_commands.proofs.ServedCalls.{nothing_written}
use Rattle.gix_commands.proofs.serve.Goals as goal

pub returns-in_err-ends-in-Commits : goal.returns-in_err-ends-in-Commits
returns-in_err-ends-in-Commits g c =
    let p = err_from_is_err_and c.from_residual.result c.from_residual.ensures.1 in
    nothing_written _ _ _ _ _ _ _ p.1 (λ other. absurd (other p.2))
