use Rattle.gix_merge_base.proofs.Histories.{bases_of_history}
use Rattle.gix_merge_base.proofs.laws.bases_of_history.Goals as goal

pub returns : goal.returns
returns c = λ history objects rows one others bases h agreeing found. bases_of_history objects history rows one others bases agreeing h found
