use Rattle.gix_commands.proofs.FileRuns.{files_succeeds}
use Rattle.gix_commands.proofs.laws.files_succeeds.Goals as goal

pub returns : goal.returns
returns c = files_succeeds
