use Rattle.gix_commands.proofs.SimpleFaults.{simple_succeeds}
use Rattle.gix_commands.proofs.laws.simple_succeeds.Goals as goal

pub returns : goal.returns
returns c = simple_succeeds
