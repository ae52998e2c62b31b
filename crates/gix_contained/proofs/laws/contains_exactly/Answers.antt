use Rattle.gix_paint.proofs.Invariant.{own_history}
use Rattle.gix_contained.proofs.laws.contains_exactly.Goals as goal

pub returns : goal.returns
returns c = λ objects rows tips ids those agreeing a. a.exact objects (own_history objects rows agreeing)
