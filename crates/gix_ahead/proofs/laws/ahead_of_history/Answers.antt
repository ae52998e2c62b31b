use Rattle.gix_ahead.proofs.Histories.{of_history}
use Rattle.gix_ahead.proofs.laws.ahead_of_history.Goals as goal

pub returns : goal.returns
returns c = λ history objects rows one other ahead behind h agreeing found. of_history objects history rows one other ahead behind agreeing h found
