use Rattle.gix_checked_graph.proofs.laws.passed_answers.Goals as goal
use Rattle.gix_checked_graph.proofs.PassedTogether.{passed_answers}

pub returns : goal.returns
returns c = passed_answers c.carries.ensures
