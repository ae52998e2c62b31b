use Rattle.gix_commands.proofs.AheadRuns.{ahead_succeeds}
use Rattle.gix_commands.proofs.laws.ahead_succeeds.Goals as goal

pub returns : goal.returns
returns c = ahead_succeeds
