-- Records whose ids are those that their objects have.
use Rattle.std.specs.Prelude.{ℕ, suc, List, length, All, IfSome}
use Rattle.std.specs.FinMap as map_of
use Rattle.gix_hash.specs.declared.ObjectId.{ObjectId}
use Rattle.gix_object.specs.Object.{Objects}
use Rattle.gix_names.specs.Named.{IsNamed}
use Rattle.gix_records.specs.declared.Error.{Error}
use Rattle.gix_records.specs.declared.Error.TheVariants as error
use Rattle.gix_records.specs.Records.{Record, IsRecord, BeginsWith}

-- the record's id is the one that its object has
abbrev pub IsNamedRecord : Record → Type 0
IsNamedRecord r = IsNamed r.id r.kind r.bytes

-- each object is under the id that it has
abbrev pub AreNamed : Objects → Type 0
AreNamed objects = (i : ObjectId) → IfSome (map_of.get objects i) (λ o. IsNamed i o.kind o.bytes)

-- the text begins with named records, and no record comes after them
pub record BeginsNamed (text : List ℕ) : Type 0 where
  pub before : List Record
  pub rest : List ℕ
  pub begins : BeginsWith before text rest
  pub named : All IsNamedRecord before
  pub none : (r : Record) (behind : List ℕ) → IsRecord r rest behind → ⊥

-- the text begins with named records, and a record comes after them whose id is another than its object has
pub data IsNameFault (text : List ℕ) : Error → Type 0 where
  misnamed : (before : List Record) (r : Record) (rest behind : List ℕ) → BeginsWith before text rest → All IsNamedRecord before
      → IsRecord r rest behind → ¬ IsNamedRecord r → IsNameFault text (error.Name (suc (length before)) r.id)
