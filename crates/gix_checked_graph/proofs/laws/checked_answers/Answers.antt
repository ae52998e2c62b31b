use Rattle.gix_checked_graph.proofs.laws.checked_answers.Goals as goal
use Rattle.gix_checked_graph.proofs.AnswersCarried.{checked_answers}

pub returns : goal.returns
returns c = checked_answers c.carries.ensures
