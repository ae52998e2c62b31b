use Rattle.gix_simple.proofs.TimeKeys.{takes_out}
use Rattle.gix_simple.proofs.pending.PendingQueue.pop.Goals as goal

pub returns-clause-ok : goal.returns-clause-ok
returns-clause-ok c = takes_out _ _ _ _ _ c.in_ok-set_order.ensures.ok _ c.take.ensures
