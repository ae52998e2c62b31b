use Rattle.gix_revwalk.specs.declared.queue.Item.{Item}
use Rattle.gix_revwalk.proofs.QueueItems
use Rattle.gix_revwalk.proofs.queue.PriorityQueue.iter_unordered.Goals as goal

pub returns : goal.returns
returns g c =
    rw (← c.self.view_is, c.iter.ensures.rest) (QueueItems.values_of_pairs (λ (i : Item g.row.K.Denot g.row.T.Denot). i.key) (λ i. i.value) _)
