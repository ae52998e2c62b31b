-- What a run over a commit-graph may answer.
use Rattle.std.proofs.Common.{◌≡◌, ◌≢◌, ℕ, List, Option, Some, Result, Ok, Err, sym, subst, ap, ◌∙◌}
use Rattle.gix_commands.proofs.Common.{Objects, GraphRow, with_rows, IsAgreeing, stored, no_bad_record, Fault, fault_of_disagreement, fault_of_records, RunsOver, without_memory, no_command, not_read, bad_record, disagrees, served}
use Rattle.gix_commands.proofs.Common.{never_faulty, Request, request_of}
use Rattle.gix_graph_check.specs.declared.Disagreement.{Disagreement}
use Rattle.gix_graph_check.specs.declared.Disagreement.TheVariants as disagreement
use Rattle.gix_graph_store.specs.Laws.{StoredAgree}
use Rattle.gix_graph_store.specs.StoredRows.{StoredDisagrees}
use Rattle.gix_graph_store.proofs.SoundRows.{told-rows-agree}
use Rattle.gix_records.specs.declared.Error.{Error as RecordsError}
use Rattle.gix_records.specs.Reading.{IsReadFrom, IsReadFault}
use Rattle.gix_records.specs.Reading as reading
use Rattle.gix_records.specs.Records.{Record, AreRecords}
use Rattle.gix_words.specs.declared.fault.Fault.TheVariants as fault
use Rattle.gix_commands.specs.Opening.{Opens, FailsToOpen}
use Rattle.gix_commands.specs.Run.{ServesOver, not_opened}
use Rattle.gix_commands.proofs.MemoryFaults.{failed_so}
use Rattle.gix_commands.proofs.RunFacts.{err_same, told_same, over_is_sound}
use Rattle.gix_commands.proofs.WalkFaults.{OfWalk, serves_of_walk}
use Rattle.gix_commands.proofs.SameWords.{OfWords, request_words}

-- rows that were opened agree with a store that has them beside what was stored, where that is as they say
pub opened_agree : (layers : List (List ℕ)) (rows : List GraphRow) (objects : Objects) → Opens layers rows → StoredAgree rows objects → IsAgreeing (with_rows rows objects) rows
opened_agree layers rows objects opens agree = told-rows-agree rows objects opens.read.chain.sound opens.sound agree

pub over_sound : {words layers : List (List ℕ)} {has old : Option (List ℕ)} {answer : Result (Unit {0}) Fault} {new : Option (List ℕ)} → RunsOver words layers has old answer new → answer ≢ Err fault.Internal
over_sound without_memory = λ e. cc
over_sound {words} (no_command t) = λ same. subst OfWords (t ∙ ap (λ x. Err x) (err_same same)) (request_words words)
over_sound {layers = layers} (not_opened request t f) = λ same. subst (FailsToOpen layers) (err_same same) f
over_sound (not_read request rows t o) = λ e. cc
over_sound (bad_record request rows input n t o i b) = λ e. cc
over_sound (disagrees request rows input records i t o h are d) = λ e. cc
over_sound {layers = layers} (served request rows input records t o i are agree s) = over_is_sound (stored records) rows request (opened_agree layers rows (stored records) o agree) s

-- where the reader has records, none is reported as bad
pub over_spelled : {words layers : List (List ℕ)} {has old : Option (List ℕ)} {answer : Result (Unit {0}) Fault} {new : Option (List ℕ)} → RunsOver words layers has old answer new
    → (bytes : List ℕ) (records : List Record) (n : ℕ) → has ≡ Some bytes → AreRecords records bytes → answer ≢ Err (fault.Record n)
over_spelled without_memory bytes records n is are = λ e. cc
over_spelled {words} (no_command t) bytes records n is are = λ same. subst OfWords (t ∙ ap (λ x. Err x) (err_same same)) (request_words words)
over_spelled {layers = layers} (not_opened request t f) bytes records n is are = λ same. subst (FailsToOpen layers) (err_same same) f
over_spelled (not_read request rows t o) bytes records n is are = λ e. cc
over_spelled {has = has} (bad_record request rows input m t o h b) bytes records n is are = λ _. no_bad_record m records input b (subst (AreRecords records) (sym (told_same bytes input has is h)) are)
over_spelled (disagrees request rows input read i t o h those d) bytes records n is are = λ e. cc
over_spelled (served request rows input read t o h those agree s) bytes records n is are = λ same. subst OfWalk same (serves_of_walk s)

module _ (words layers : List (List ℕ)) (has old : Option (List ℕ)) where
  -- the words were no command
  pub over_words : (result : Result (Unit {0}) Fault) (e : Fault) → result ≡ Err e → (e ≢ fault.Memory → request_of words ≡ Err e) → RunsOver words layers has old result old
  over_words result e same h = failed_so (λ r. RunsOver words layers has old r old) without_memory result e same (λ other. no_command (h other))

  module _ (request : Request) (t : request_of words ≡ Ok request) where
    -- the layers weren't opened
    pub over_unopened : (result : Result (Unit {0}) Fault) (e : Fault) → result ≡ Err e → FailsToOpen layers e → RunsOver words layers has old result old
    over_unopened result e same h = subst (λ (r : Result (Unit {0}) Fault). RunsOver words layers has old r old) (sym same) (not_opened request t h)

    module _ (rows : List GraphRow) (opens : Opens layers rows) where
      of_input : (e : RecordsError) → IsReadFault has e → RunsOver words layers has old (Err (fault_of_records e)) old
      of_input e reading.not_read = not_read request rows t opens
      of_input e reading.without_memory = without_memory
      of_input e (reading.bad_record input {n = n} h b) = bad_record request rows input n t opens h b

      -- the input was no records, or wasn't read
      pub over_input : (result : Result (Unit {0}) Fault) (e : RecordsError) (f : Fault) → result ≡ Err f → f ≡ fault_of_records e → IsReadFault has e → RunsOver words layers has old result old
      over_input result e f same is h = subst (λ (r : Result (Unit {0}) Fault). RunsOver words layers has old r old) (sym (same ∙ ap (λ x. Err x) is)) (of_input e h)

      module _ (objects : Objects) (read : IsReadFrom has objects) where
        of_disagreement : (why : Disagreement) → StoredDisagrees objects (never_faulty objects) rows why → RunsOver words layers has old (Err (fault_of_disagreement why)) old
        of_disagreement (disagreement.Row i) d = disagrees request rows read.0 read.1 i t opens read.2 read.3 (subst (λ (o : Objects). StoredDisagrees o (never_faulty o) rows (disagreement.Row i)) read.4 d)
        of_disagreement (disagreement.Store i) d = absurd d.disagrees.1
        of_disagreement disagreement.Memory d = without_memory

        -- what is stored isn't as the rows say
        pub over_disagreement : (result : Result (Unit {0}) Fault) (why : Disagreement) (f : Fault) → result ≡ Err f → f ≡ fault_of_disagreement why → StoredDisagrees objects (never_faulty objects) rows why → RunsOver words layers has old result old
        over_disagreement result why f same is d = subst (λ (r : Result (Unit {0}) Fault). RunsOver words layers has old r old) (sym (same ∙ ap (λ x. Err x) is)) (of_disagreement why d)

        -- what was asked for was served
        pub over_served : (new : Option (List ℕ)) (result : Result (Unit {0}) Fault) → StoredAgree rows objects → ServesOver objects rows old request result new → RunsOver words layers has old result new
        over_served new result agree s =
            served request rows read.0 read.1 t opens read.2 read.3 (subst (StoredAgree rows) read.4 agree) (subst (λ (o : Objects). ServesOver o rows old request result new) read.4 s)
