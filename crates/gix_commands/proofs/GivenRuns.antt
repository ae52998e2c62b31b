-- A run over records that are in memory.
use Rattle.std.proofs.Common.{◌≡◌, ◌≢◌, ℕ, List, Option, Some, Result, Err, sym, subst, ap, ◌∙◌}
use Rattle.gix_commands.proofs.Common.{ObjectId, Objects, GraphRow, IsRecordFault, bad, Fault, fault_of_records, Runs, without_memory, no_command, not_read, bad_record, served, Request, request_of}
use Rattle.gix_records.specs.declared.Error.{Error as RecordsError}
use Rattle.gix_records.specs.Input.{Tells}
use Rattle.gix_records.specs.Records.{no_memory}
use Rattle.gix_words.specs.declared.fault.Fault.TheVariants as fault
use Rattle.gix_commands.specs.Run.{Serves}
use Rattle.gix_commands.proofs.WalkFaults.{OfWalk, serves_of_walk}
use Rattle.gix_commands.proofs.SameWords.{OfWords, request_words}

of_reader : (has : Option (List ℕ)) (input bytes other : List ℕ) → Tells has input → bytes ≡ input → other ≡ bytes → Tells has other
of_reader has input bytes other told read same = subst (Tells has) (sym (same ∙ read)) told

-- a run over the bytes that a reader had
pub runs_told : {words : List (List ℕ)} {has old new : Option (List ℕ)} {input bytes : List ℕ} {answer : Result (Unit {0}) Fault} → Tells has input → bytes ≡ input → Runs words (Some bytes) old answer new → Runs words has old answer new
runs_told told read without_memory = without_memory
runs_told told read (no_command t) = no_command t
runs_told told read (not_read request t) = not_read request t
runs_told {has = has} {input = input} {bytes = bytes} told read (bad_record request other n t same b) = bad_record request other n t (of_reader has input bytes other told read same) b
runs_told {has = has} {input = input} {bytes = bytes} told read (served request other records t same are s) = served request other records t (of_reader has input bytes other told read same) are s

-- no fault is the reader's
pub words_unread : (words : List (List ℕ)) (e : Fault) → (e ≢ fault.Memory → request_of words ≡ Err e) → e ≢ fault.Read
words_unread words e h = λ is. subst OfWords (h (λ memory. cc) ∙ ap (λ x. Err x) is) (request_words words)

pub records_unread : {text : List ℕ} {e : RecordsError} → IsRecordFault text e → fault_of_records e ≢ fault.Read
records_unread (bad b) = λ e. cc
records_unread (no_memory before r rest behind begins is) = λ e. cc

pub serves_unread : {Stored : ObjectId → Type 0} {objects : Objects} {rows : List GraphRow} {old new : Option (List ℕ)} {request : Request} {answer : Result (Unit {0}) Fault} → Serves Stored objects rows old request answer new → answer ≢ Err fault.Read
serves_unread s = λ same. subst OfWalk same (serves_of_walk s)
