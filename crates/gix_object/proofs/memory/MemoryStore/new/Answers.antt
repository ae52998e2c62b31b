use Rattle.gix_object.proofs.MemoryStore.{within_empty, empty_stored}
use Rattle.gix_object.proofs.memory.MemoryStore.new.Goals as goal

pub invariant_of-result : goal.invariant_of-result
invariant_of-result c = rw c.new.ensures (within_empty _)

pub returns : goal.returns
returns c = rw c.new.ensures (empty_stored _)
