use Rattle.gix_commands.proofs.ContainedRuns.{contains_succeeds}
use Rattle.gix_commands.proofs.laws.contains_succeeds.Goals as goal

pub returns : goal.returns
returns c = contains_succeeds
