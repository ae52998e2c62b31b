use Rattle.std.proofs.Common.{◌≡◌, ◌++◌, length}
use Rattle.gix_simple.proofs.Common.{values, AreKeyed}
use Rattle.gix_simple.proofs.pending.queue_of.Given as goal

-- the commits that were put in and those that are left are all
abbrev pub invariant-loop-pending : goal.invariant-loop-pending
invariant-loop-pending l = record {
  items : l.fn.list.items ≡ values l.queue ++ l.list.items;
  keyed : AreKeyed l.order l.queue;
}

abbrev pub decreases-loop-pending : goal.decreases-loop-pending
decreases-loop-pending l = length l.list.items
