use Rattle.gix_revwalk.specs.declared.queue.Item.{Item}
use Rattle.gix_revwalk.proofs.QueueItems
use Rattle.gix_revwalk.proofs.queue.PriorityQueue.pop.Goals as goal

pub returns-clause-greatest : goal.returns-clause-greatest
returns-clause-greatest g c =
    rw (← c.self.view_is) (QueueItems.greatest_key (λ (i : Item g.row.K.Denot g.row.T.Denot). i.key) (λ i. i.value) g.K.Ord.cmp c.in_ok-key.field-0 _ (c.in_ok-key.ensures.heap_order c.self.invariant).1)

pub returns-clause-rest : goal.returns-clause-rest
returns-clause-rest g c =
    rw (← c.self.view_is) (QueueItems.taken_out (λ (i : Item g.row.K.Denot g.row.T.Denot). i.key) (λ i. i.value) _ _ _ c.in_ok-key.ensures.permutation)
