use Rattle.std.proofs.Common.{◌≤◌, ◌+◌, length}
use Rattle.gix_object.specs.MemoryStore.{objects_at, AreWithin}
use Rattle.gix_records.proofs.RecordFacts.{HasStored}
use Rattle.gix_records.proofs.places_of.Given as goal

-- what was read are records, and the places of their objects are kept
abbrev pub invariant-loop-rest : goal.invariant-loop-rest
invariant-loop-rest l = record {
  read : HasStored l.fn.bytes l.rest l.number (objects_at l.fn.bytes l.objects);
  within : AreWithin l.objects (length l.fn.bytes);
  room : l.number + length l.rest ≤ 1 + length l.fn.bytes;
}

abbrev pub decreases-loop-rest : goal.decreases-loop-rest
decreases-loop-rest l = length l.rest
