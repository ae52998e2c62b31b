use Rattle.std.proofs.Common.{◌∙◌}
use Rattle.gix_paint.specs.Inside.Queue.{queue_entries}
use Rattle.gix_paint.proofs.Waits.{entries-empty}
use Rattle.gix_paint.proofs.queue.Queue.new.Goals as goal

pub returns : goal.returns
returns c = (λ k. queue_entries (c.new.ensures.items k) (c.new-2.ensures k)) ∙ entries-empty
