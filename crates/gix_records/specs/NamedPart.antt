-- Named records whose ids a named store has.
use Rattle.std.specs.Prelude.{◌≡◌, ◌⊎◌, ◌<◌, ◌^◌, ℕ, List, length, All, Some, IsSome, IfSome}
use Rattle.std.specs.FinMap as map_of
use Rattle.gix_hash.specs.declared.Kind.{Kind}
use Rattle.gix_hash.specs.declared.ObjectId.{ObjectId}
use Rattle.gix_object.specs.Object.{Object, Objects}
use Rattle.gix_names.specs.Named.{Collide}
use Rattle.gix_records.specs.Records.{Record, AreRecords, stored}
use Rattle.gix_records.specs.NamedRecords.{IsNamedRecord, AreNamed}

-- each object of the one is in the other, under the same id
abbrev pub IsWithin : Objects → Objects → Type 0
IsWithin some all = (i : ObjectId) (o : Object) → map_of.get some i ≡ Some o → map_of.get all i ≡ Some o

-- two texts of one hash are at hand
abbrev pub SomeCollide : Type 0
SomeCollide = (by : Kind) × (x : List ℕ) × (y : List ℕ) × Collide by x y

-- The objects of records under their own hashes are those of any store under their own hashes that has an object for each of their ids,
-- or two texts of one hash are at hand.
abbrev pub NamedPart : Type 0
NamedPart =
    (records : List Record) (text : List ℕ) (objects : Objects) → length text < 2 ^ 64 → AreRecords records text → All IsNamedRecord records
    → AreNamed objects → ((i : ObjectId) → IfSome (map_of.get objects i) (λ o. length o.bytes < 2 ^ 64))
    → All (λ r. IsSome (map_of.get objects r.id)) records → IsWithin (stored records) objects ⊎ SomeCollide
