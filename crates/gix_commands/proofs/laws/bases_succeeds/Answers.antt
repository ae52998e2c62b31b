use Rattle.gix_commands.proofs.BasesRuns.{bases_succeeds}
use Rattle.gix_commands.proofs.laws.bases_succeeds.Goals as goal

pub returns : goal.returns
returns c = bases_succeeds
