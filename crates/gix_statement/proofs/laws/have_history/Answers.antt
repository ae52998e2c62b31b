use Rattle.gix_statement.proofs.laws.have_history.Goals as goal
use Rattle.gix_statement.proofs.HaveHistory as have

pub returns : goal.returns
returns c = have.have_history
