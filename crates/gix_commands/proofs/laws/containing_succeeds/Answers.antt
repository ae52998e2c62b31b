use Rattle.gix_commands.proofs.ContainingRuns.{containing_succeeds}
use Rattle.gix_commands.proofs.laws.containing_succeeds.Goals as goal

pub returns : goal.returns
returns c = containing_succeeds
