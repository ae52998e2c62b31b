use Rattle.std.proofs.Common.{◌≡◌, ◌+◌, ◌++◌, drop}
use Rattle.gix_batches.specs.Slices.{id_of}
use Rattle.gix_batches.proofs.Slots.{fronted}
use Rattle.gix_batches.proofs.commit.put_ids.Given as goal

-- the first ids were put
abbrev pub invariant-loop-id : goal.invariant-loop-id
invariant-loop-id l = record {
  next : l.next ≡ l.at + l.id-index;
  room : l.room ≡ fronted id_of l.at l.ids l.fn.room l.id-index ++ drop (l.at + l.id-index) l.fn.room;
}
