-- How the answer of a call over commits is served.
use Rattle.std.proofs.Common.{◌≡◌, ◌≢◌, ℕ, List, Option, Result, Ok, Err, IfErr, OnOk, flat_map, sym, ap, subst, ◌∙◌}
use Rattle.std.proofs.KnownBytes.{Appends-trans}
use Rattle.std.specs.Io.KnownBytes.{append_known}
use Rattle.gix_commands.proofs.Common.{Appends, ObjectId, Objects, GraphRow, Fault, Request, line_of, unserved}
use Rattle.gix_words.specs.declared.fault.Fault.TheVariants as fault
use Rattle.gix_commands.specs.Output.{BreaksOff}
use Rattle.gix_commands.specs.Run.{Serves, cut_off}
use Rattle.gix_commands.proofs.MemoryFaults.{failed_so}
use Rattle.gix_commands.proofs.OutputFacts.{appends_behind}

module _ (Stored : ObjectId → Type 0) (objects : Objects) (rows : List GraphRow) (old : Option (List ℕ)) (request : Request) where
  abbrev ServesSo : Result (Unit {0}) Fault → Option (List ℕ) → Type 0
  ServesSo = Serves Stored objects rows old request

  -- nothing was written
  pub nothing_written : (result : Result (Unit {0}) Fault) (e : Fault) → result ≡ Err e → (e ≢ fault.Memory → ServesSo (Err e) old) → ServesSo result old
  nothing_written = failed_so (λ r. ServesSo r old) unserved

  -- the bytes were written at once, or their beginning was
  pub written_or_begun : (bytes : List ℕ) → ((full : Option (List ℕ)) → Appends old full bytes → ServesSo (Ok tt) full) → (new : Option (List ℕ)) (result : Result (Unit {0}) Fault) → OnOk result (Appends old new bytes) → IfErr result (BreaksOff old new bytes) → ServesSo result new
  written_or_begun bytes serves new (Ok done) h k = serves new h
  written_or_begun bytes serves new (Err e) h k =
      let full = append_known new k.1.1 in
      subst (λ (f : Fault). ServesSo (Err f) new) (sym k.0)
      (cut_off k.1.0 k.1.1 (serves full (subst (Appends old full) (sym k.1.2) (Appends-trans old new full k.1.0 k.1.1 k.1.3 (appends_behind new k.1.1)))) k.1.3 (appends_behind new k.1.1))

  -- of a call about ids
  module _ (ids : List ObjectId) (store : Objects) (same : store ≡ objects) (asked : List ObjectId) (of_ids : asked ≡ ids) where
    moved : (P : Objects → List ObjectId → Type 0) → P store asked → P objects ids
    moved P h = subst (P objects) of_ids (subst (λ all. P all asked) same h)

    -- the fault is that of the call
    pub call_failed : {E : Type 0} (Fails : Objects → List GraphRow → List ObjectId → E → Type 0) (fault_of : E → Fault) (memory : E) → fault_of memory ≡ fault.Memory
        → ((why : E) → Fails objects rows ids why → ServesSo (Err (fault_of why)) old)
        → (result : Result (Unit {0}) Fault) (why : E) (e : Fault) → result ≡ Err e → e ≡ fault_of why → (why ≢ memory → Fails store rows asked why) → ServesSo result old
    call_failed Fails fault_of memory no_memory serves result why e failed is fails =
        nothing_written result e failed
        (λ other. subst (λ f. ServesSo (Err f) old) (sym is) (serves why (moved (λ all xs. Fails all rows xs why) (fails (λ m. other (is ∙ ap fault_of m ∙ no_memory))))))

    -- the lines of the ids that the call found were written, or the writer failed
    pub call_written : (Finds : Objects → List GraphRow → (ids those : List ObjectId) → Type 0) → ((full : Option (List ℕ)) (those : List ObjectId) → Finds objects rows ids those → Appends old full (flat_map line_of those) → ServesSo (Ok tt) full)
        → (new : Option (List ℕ)) (those : List ObjectId) (lines : List ℕ) (result : Result (Unit {0}) Fault) → Finds store rows asked those → lines ≡ flat_map line_of those
        → OnOk result (Appends old new lines) → IfErr result (BreaksOff old new lines) → ServesSo result new
    call_written Finds serves new those lines result found is =
        written_or_begun lines (λ full h. serves full those (moved (λ all xs. Finds all rows xs those) found) (subst (Appends old full) is h)) new result
