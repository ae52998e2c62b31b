use Rattle.gix_contained.proofs.OneAnswer.{one_answer}
use Rattle.gix_contained.proofs.laws.rows_agree.Goals as goal

pub returns : goal.returns
returns c = λ history one other rows others tips ids those these part a other_part b. one_answer (a.exact history part) (b.exact history other_part)
