use Rattle.gix_statement.proofs.laws.carries.Goals as goal
use Rattle.gix_statement.proofs.Carried as carried

pub returns : goal.returns
returns c = carried.carries
