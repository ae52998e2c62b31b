use Rattle.gix_revwalk.specs.declared.queue.Item.{Item}
use Rattle.gix_revwalk.proofs.QueueItems
use Rattle.gix_revwalk.proofs.queue.PriorityQueue.peek.Goals as goal

pub returns-clause-greatest : goal.returns-clause-greatest
returns-clause-greatest g c =
    rw (← c.self.view_is) (QueueItems.greatest_key (λ (i : Item g.row.K.Denot g.row.T.Denot). i.key) (λ i. i.value) g.K.Ord.cmp c.in_ok-item.item.now _ (c.in_ok-item.ensures.greatest c.self.invariant))
