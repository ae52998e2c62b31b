-- The objects of the records that a reader gives.
use Rattle.std.specs.Prelude.{◌≡◌, ℕ, List, Option}
use Rattle.gix_object.specs.Object.{Objects}
use Rattle.gix_records.specs.declared.Error.{Error}
use Rattle.gix_records.specs.declared.Error.TheVariants as error
use Rattle.gix_records.specs.Input.{Tells}
use Rattle.gix_records.specs.Records.{Record, AreRecords, IsBadRecord, stored}

-- the bytes that a reader had, where they are known, are records, and these are their objects
abbrev pub IsReadFrom : Option (List ℕ) → Objects → Type 0
IsReadFrom has objects = (input : List ℕ) × (records : List Record) × Tells has input × AreRecords records input × (objects ≡ stored records)

-- why the bytes that a reader had aren't stored
pub data IsReadFault (has : Option (List ℕ)) : Error → Type 0 where
  not_read : IsReadFault has error.Read
  without_memory : IsReadFault has error.Memory
  bad_record : (input : List ℕ) {n : ℕ} → Tells has input → IsBadRecord n input → IsReadFault has (error.Record n)
