use Rattle.gix_statement.proofs.laws.one_answer.Goals as goal
use Rattle.gix_statement.proofs.OneAnswer as one

pub returns : goal.returns
returns c = one.one_answer
