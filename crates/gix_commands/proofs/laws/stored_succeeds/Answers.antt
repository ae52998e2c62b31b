use Rattle.gix_commands.proofs.StoredWell.{stored_succeeds}
use Rattle.gix_commands.proofs.laws.stored_succeeds.Goals as goal

pub returns : goal.returns
returns c = stored_succeeds
