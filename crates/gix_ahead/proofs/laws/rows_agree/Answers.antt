use Rattle.gix_revwalk.specs.Commits.{parents_of}
use Rattle.gix_ahead.proofs.Histories.{of_history, one_number}
use Rattle.gix_ahead.proofs.laws.rows_agree.Goals as goal

pub returns : goal.returns
returns c = λ history these those rows others_rows one other ahead behind before after part agreeing a other_part also b.
    let mine = of_history these history rows one other ahead behind agreeing part a in
    let theirs = of_history those history others_rows one other before after also other_part b in
    (one_number (parents_of history) one other ahead before mine.0 theirs.0, one_number (parents_of history) other one behind after mine.1 theirs.1)
