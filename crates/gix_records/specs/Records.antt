-- Records of objects, as git prints them: a kind, a space, an id in hex digits, a space, the number of bytes in decimal digits, a
-- newline, the bytes, a newline.
use Rattle.std.specs.Prelude.{◌≡◌, ◌≢◌, ℕ, suc, List, [], ◌∷◌, ◌++◌, length, Some, Ok}
use Rattle.std.specs.FinMap as map_of
use Rattle.gix_hash.specs.declared.ObjectId.{ObjectId}
use Rattle.gix_object.specs.declared.Kind.{Kind}
use Rattle.gix_hash.specs.Id.{id_from_hex}
use Rattle.gix_object.specs.Object.{Objects}
pub use Rattle.gix_names.specs.Named.{kind_word}
use Rattle.gix_records.specs.declared.Error.{Error}
use Rattle.gix_records.specs.declared.Error.TheVariants as error
use Rattle.gix_records.specs.Decimal.{decimal}

pub record Record : Type 0 where
  pub kind : Kind
  pub id : ObjectId
  pub bytes : List ℕ

-- this record is at the front of a text, and the rest comes after it
pub record IsRecord (r : Record) (text rest : List ℕ) : Type 0 where
  pub id_digits : List ℕ
  pub length_digits : List ℕ
  pub is_id : id_from_hex id_digits ≡ Ok r.id
  pub is_length : decimal length_digits ≡ Some (length r.bytes)
  pub whole : text ≡ kind_word r.kind ++ 32 ∷ (id_digits ++ 32 ∷ (length_digits ++ 10 ∷ (r.bytes ++ 10 ∷ rest)))

-- the text begins with these records, and the rest comes after them
abbrev pub BeginsWith : List Record → List ℕ → List ℕ → Type 0
BeginsWith [] text rest = text ≡ rest
BeginsWith (r ∷ records) text rest = (behind : List ℕ) × IsRecord r text behind × BeginsWith records behind rest

-- the text is these records and nothing else
abbrev pub AreRecords : List Record → List ℕ → Type 0
AreRecords records text = BeginsWith records text []

-- the text begins with n - 1 records, and the rest after them is neither empty nor begins with a record
pub record IsBadRecord (n : ℕ) (text : List ℕ) : Type 0 where
  pub before : List Record
  pub rest : List ℕ
  pub count : n ≡ suc (length before)
  pub begins : BeginsWith before text rest
  pub more : rest ≢ []
  pub none : (r : Record) (behind : List ℕ) → IsRecord r rest behind → ⊥

-- the objects of records, put in one after another: of two of one id the later counts
abbrev pub put_in : Objects → List Record → Objects
put_in objects [] = objects
put_in objects (r ∷ records) = put_in (map_of.insert objects r.id (record { kind = r.kind; bytes = r.bytes })) records

abbrev pub stored : List Record → Objects
stored records = put_in map_of.empty records

-- why an input isn't stored: it has a bad record, or memory ran out for the place of a record
pub data IsRecordFault (text : List ℕ) : Error → Type 0 where
  bad : {n : ℕ} → IsBadRecord n text → IsRecordFault text (error.Record n)
  no_memory : (before : List Record) (r : Record) (rest behind : List ℕ) → BeginsWith before text rest → IsRecord r rest behind
      → IsRecordFault text error.Memory
