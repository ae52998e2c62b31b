use Rattle.gix_containing.proofs.Histories.{containing_of_history}
use Rattle.gix_containing.proofs.laws.containing_of_history.Goals as goal

pub returns : goal.returns
returns c = λ history objects rows target tips those h agreeing found. containing_of_history objects history rows target tips those agreeing h found
