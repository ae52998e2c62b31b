use Rattle.gix_revwalk.specs.Commits.{parents_of}
use Rattle.gix_containing.proofs.Histories.{containing_of_history, one_answer}
use Rattle.gix_containing.proofs.laws.rows_agree.Goals as goal

pub returns : goal.returns
returns c = λ history one other rows others_rows target tips those these part agreeing a other_part also b.
    one_answer (parents_of history) target (containing_of_history one history rows target tips those agreeing part a) (containing_of_history other history others_rows target tips these also other_part b)
