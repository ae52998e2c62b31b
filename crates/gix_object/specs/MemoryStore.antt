-- What a store in memory holds: for each id a place in one buffer of bytes.
use Rattle.std.specs.Prelude.{ℕ, ◌-◌, ◌≤◌, List, take, drop, map, IfSome}
use Rattle.std.specs.FinMap.{FinMap, entries, from_sorted, get}
use Rattle.gix_hash.specs.declared.ObjectId.{ObjectId}
use Rattle.gix_object.specs.declared.memory.Stored.{Stored}
use Rattle.gix_hash.specs.Id.{id_cmp}
use Rattle.gix_object.specs.Object.{Object, Objects}

-- the object whose bytes are at a place of the buffer
abbrev pub object_at : List ℕ → Stored → Object
object_at buffer s = record { kind = s.kind; bytes = take (s.end - s.start) (drop s.start buffer) }

-- the objects at all places
abbrev pub objects_at : List ℕ → FinMap id_cmp Stored → Objects
objects_at buffer places = from_sorted (map (λ e. (e.0, object_at buffer e.1)) (entries places))

-- each place is within the first so many bytes
abbrev pub AreWithin : FinMap id_cmp Stored → ℕ → Type 0
AreWithin places count = (i : ObjectId) → IfSome (get places i) (λ s. (s.start ≤ s.end) × (s.end ≤ count))
