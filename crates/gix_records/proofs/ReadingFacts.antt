-- What a reader's bytes were read as.
use Rattle.std.proofs.Common.{◌≡◌, ◌⊎◌, ℕ, List, Option, Result, Ok, Err, IfErr, sym, subst, inl, inr}
use Rattle.gix_object.specs.Object.{Objects}
use Rattle.gix_records.specs.declared.Error.{Error}
use Rattle.gix_records.specs.declared.Error.TheVariants as error
use Rattle.gix_records.specs.Input.{Tells}
use Rattle.gix_records.specs.Reading.{IsReadFrom, IsReadFault, not_read, without_memory, bad_record}
use Rattle.gix_records.specs.Records.{Record, AreRecords, IsRecordFault, bad, no_memory, stored}

-- the bytes couldn't be read
pub fails_to_read : (has : Option (List ℕ)) (e : Error) → (e ≡ error.Read) ⊎ (e ≡ error.Memory) → IsReadFault has e
fails_to_read has e (inl h) = subst (IsReadFault has) (sym h) not_read
fails_to_read has e (inr h) = subst (IsReadFault has) (sym h) without_memory

fails_at_record : (has : Option (List ℕ)) (input : List ℕ) (e : Error) → Tells has input → IsRecordFault input e → IsReadFault has e
fails_at_record has input e h (bad b) = bad_record input h b
fails_at_record has input e h (no_memory before r rest behind begins is) = without_memory

-- the bytes that were read are no records, or memory ran out for them
pub fails_of_record : {A : Type 0} (has : Option (List ℕ)) (input : List ℕ) (result : Result A Error) → Tells has input → IfErr result (λ e. IsRecordFault input e) → IfErr result (λ e. IsReadFault has e)
fails_of_record has input (Ok a) h f = tt
fails_of_record has input (Err e) h f = fails_at_record has input e h f

-- the bytes that were read are records, and these are their objects
pub read_from : (has : Option (List ℕ)) (input bytes : List ℕ) (objects : Objects) → Tells has input → bytes ≡ input → (records : List Record) × AreRecords records bytes × (objects ≡ stored records) → IsReadFrom has objects
read_from has input bytes objects told same read = (bytes, read.0, subst (Tells has) (sym same) told, read.1, read.2)

-- the bytes that were read are no records, or memory ran out for their places
pub fails_from : (has : Option (List ℕ)) (input bytes : List ℕ) (e : Error) → Tells has input → bytes ≡ input → IsRecordFault bytes e → IsReadFault has e
fails_from has input bytes e told same f = fails_at_record has bytes e (subst (Tells has) (sym same) told) f
