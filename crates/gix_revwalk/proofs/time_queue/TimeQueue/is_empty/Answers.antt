use Rattle.std.proofs.Common.{◌==◌, ap, ◌∙◌}
use Rattle.gix_revwalk.proofs.InTurn.{as_many}
use Rattle.gix_revwalk.proofs.time_queue.TimeQueue.is_empty.Goals as goal

pub returns : goal.returns
returns g c = rw (← c.self.view_is) (c.is_empty.ensures ∙ ap (λ n. n == 0) (as_many c.self.inside.queue))
