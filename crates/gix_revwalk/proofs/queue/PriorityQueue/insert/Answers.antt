use Rattle.gix_revwalk.specs.declared.queue.Item.{Item}
use Rattle.gix_revwalk.proofs.QueueItems
use Rattle.gix_revwalk.proofs.queue.PriorityQueue.insert.Goals as goal

pub returns-clause-ok : goal.returns-clause-ok
returns-clause-ok g c =
    rw (← c.self.view_is) (QueueItems.put_in (λ (i : Item g.row.K.Denot g.row.T.Denot). i.key) (λ i. i.value) _ _ _ c.in_ok-push.ensures.permutation)
