-- What a run of `files` writes, by the entries of trees.
use Rattle.std.proofs.Common.{◌≡◌, ◌≢◌, ◌<◌, ℕ, List, [], ◌∷◌, length, None, arith, false, true, Option, Some, Result, Ok, Err, refl, sym, subst, ◌∙◌}
use Rattle.gix_commands.proofs.Common.{ObjectId, Objects, GraphRow, Tracked, Tracks, fresh_recorder, Ending, Whole, Broken, Failed, IsUnfailed, LookUpFails, depth_answer, trees_of, LookUpFailed, only_reading, Runs, without_memory, no_command, not_read, bad_record, served}
use Rattle.gix_commands.proofs.Common.{sound_depth_succeeds, Fault, fault_of_find, fault_of_tree_walk, RecordsTree, EndsWell, IsOutside, stored, not_listed, unserved, never_faulty, request_of}
use Rattle.gix_commands.proofs.Common.{EntryLines, Files}
use Rattle.gix_object.specs.declared.find.existing_iter.Error.{Error as ExistingError}
use Rattle.gix_object.specs.declared.find.existing_iter.Error.TheVariants as existing
use Rattle.gix_records.specs.Records.{Record, AreRecords}
use Rattle.gix_tree.specs.declared.breadthfirst.Error.{Error}
use Rattle.gix_tree.specs.declared.breadthfirst.Error.TheVariants as error
use Rattle.gix_tree.specs.Laws.{AreSound}
use Rattle.gix_tree.specs.Visits.{Visit}
use Rattle.gix_tree_size.specs.Survey.{capped}
use Rattle.gix_words.specs.declared.fault.Fault.TheVariants as fault
use Rattle.gix_commands.specs.Listings.{AreListable, AreNamed, Unfolds, Misnames, FilesReportEntries, FilesReportNames, FilesSucceeds}
use Rattle.gix_commands.specs.Files.{most_entries}
use Rattle.gix_commands.specs.Readable.{readable, reads_all_lines}
use Rattle.gix_commands.specs.Chosen.{HasObject}
use Rattle.gix_commands.specs.Run.{Serves, listed, misnamed, too_many, cut_off}
use Rattle.gix_commands.proofs.CommitRuns.{ok_same, ends_well}
use Rattle.gix_commands.proofs.NamedTrees.{no_misnamed, misnames, have_names}
use Rattle.gix_commands.proofs.ReadableObjects.{misnames_back, readable_named, readable_sound, unfolds_back}
use Rattle.gix_commands.proofs.RunFacts.{err_same}
use Rattle.gix_commands.proofs.TreeFacts.{goes_on, in_preorder}

name_same : {i j : ObjectId} → fault.Name i ≡ fault.Name j → i ≡ j
name_same e = cc

entries_same : {n m : ℕ} → fault.Entries n ≡ fault.Entries m → n ≡ m
entries_same e = cc

-- a fault that a walk through a tree may have: neither that a name is none, nor that there are too many entries
abbrev IsOfTree : Fault → Type 0
IsOfTree (fault.Name i) = ⊥
IsOfTree (fault.Entries n) = ⊥
IsOfTree e = Unit {0}

-- a look-up that fails has such a fault
of_find : (e : ExistingError) → IsOfTree (fault_of_find e)
of_find existing.Store = tt
of_find e = tt

-- and so has each walk that fails
of_tree : (why : Error) → IsOfTree (fault_of_tree_walk why)
of_tree (error.Find e) = of_find e
of_tree e = tt

not_failed : (why : Error) (end : Ending) → Err why ≡ depth_answer end → IsUnfailed end → ⊥
not_failed why Whole e u = cc
not_failed why Broken e u = cc
not_failed why (Failed other) e u = u

module _ (objects : Objects) (shown : EntryLines) (tree : ObjectId) where
  pub unfolds : (recorder : Tracked) (walk : RecordsTree objects tree recorder (Ok tt)) → Unfolds objects tree walk.visits
  unfolds recorder walk = record { in_order = in_preorder objects tree recorder walk.script walk.run walk.answered; all = goes_on objects tree recorder walk.script walk.run }

  reports : {Stored : ObjectId → Type 0} → (i : ObjectId) (answer : Result (Unit {0}) Fault) (old new : Option (List ℕ)) → Serves Stored objects [] old (Files shown tree) answer new → answer ≡ Err (fault.Name i) → Misnames objects tree i
  reports i answer old new (listed recorder walk names written) is = cc
  reports i answer old new (not_listed recorder why walk) is = absurd (subst IsOfTree (err_same is) (of_tree why))
  reports i answer old new (misnamed {i = j} recorder walk first) is = subst (Misnames objects tree) (name_same (err_same is)) (misnames objects tree walk.visits j (unfolds recorder walk) first)
  reports i answer old new (too_many recorder walk names none more) is = cc
  reports i answer old new unserved is = cc
  reports i answer old new (cut_off some more s a b) is = cc

  -- so many entries, where these are too many
  abbrev Counted : ℕ → Type 0
  Counted n = (visits : List Visit) × Unfolds objects tree visits × (most_entries < length visits) × (n ≡ capped (length visits)) × (shown.limit ≡ None)

  counts : {Stored : ObjectId → Type 0} → (n : ℕ) (answer : Result (Unit {0}) Fault) (old new : Option (List ℕ)) → Serves Stored objects [] old (Files shown tree) answer new → answer ≡ Err (fault.Entries n) → Counted n
  counts n answer old new (listed recorder walk names written) is = cc
  counts n answer old new (not_listed recorder why walk) is = absurd (subst IsOfTree (err_same is) (of_tree why))
  counts n answer old new (misnamed recorder walk first) is = cc
  counts n answer old new (too_many recorder walk names none more) is = (walk.visits, unfolds recorder walk, more, sym (entries_same (err_same is)), none)
  counts n answer old new unserved is = cc
  counts n answer old new (cut_off some more s a b) is = cc

  module _ (sound : AreSound (trees_of objects) (LookUpFails objects (never_faulty objects)) (λ e. true) (tree ∷ [])) (named : AreNamed objects tree) (few : AreListable objects shown tree) where
    soundly : (why : Error) → AreSound (trees_of objects) (LookUpFailed objects (never_faulty objects) (Err why)) (λ e. true) (tree ∷ [])
    soundly why = record { whole = λ i r. let w = sound.whole i r in record { stored = w.stored; found = λ e f. w.found e f.0 }; free = sound.free }

    no_other : (why : Error) (recorder : Tracked) → RecordsTree objects tree recorder (Err why) → why ≢ error.Memory → ⊥
    no_other why recorder walk other =
        not_failed why walk.end walk.answered (sound_depth_succeeds objects (never_faulty objects) Tracks tree fresh_recorder recorder (Err why) walk (λ e. true) (λ calls mid new e run s. refl) (soundly why) (λ e. let same : why ≡ error.Memory = cc in other same))

    outside : (why : Error) (recorder : Tracked) → RecordsTree objects tree recorder (Err why) → IsOutside (fault_of_tree_walk why)
    outside error.Memory recorder walk = tt
    outside (error.Find e) recorder walk = absurd (no_other (error.Find e) recorder walk (λ e. cc))
    outside error.Cancelled recorder walk = absurd (no_other error.Cancelled recorder walk (λ e. cc))
    outside (error.ObjectDecode e) recorder walk = absurd (no_other (error.ObjectDecode e) recorder walk (λ e. cc))
    outside (error.Cycle i) recorder walk = absurd (no_other (error.Cycle i) recorder walk (λ e. cc))

    pub well : {Stored : ObjectId → Type 0} {rows : List GraphRow} → (old : Option (List ℕ)) (answer : Result (Unit {0}) Fault) (new : Option (List ℕ)) → Serves Stored objects rows old (Files shown tree) answer new → EndsWell answer
    well old answer new (listed recorder walk names written) = tt
    well old answer new (not_listed recorder why walk) = outside why recorder walk
    well old answer new (misnamed {i = i} recorder walk first) = no_misnamed walk.visits i (have_names objects tree named walk.visits (unfolds recorder walk)) first
    well old answer new (too_many recorder walk names none more) =
        let no : ⊥ = omega (arith, more, few none walk.visits (unfolds recorder walk)) in
        absurd no
    well old answer new unserved = tt
    well old answer new (cut_off some more s a b) = tt

pub files_succeeds : FilesSucceeds
files_succeeds words input records shown tree answer old new asked are sound named few runs = ends_well words input records (Files shown tree) answer old new asked are (well (readable false (stored records)) shown tree (readable_sound false (stored records) (λ e. true) (tree ∷ []) sound) (readable_named false (stored records) tree named) (λ none visits u. few none visits (unfolds_back false (stored records) tree visits u)) old) runs

-- what a run over records says that ended by a fault, as what serving them says
reported : (P : Objects → Fault → Type 0) (words : List (List ℕ)) (input : List ℕ) (records : List Record) (shown : EntryLines) (tree : ObjectId) (e : Fault) (answer : Result (Unit {0}) Fault) (old new : Option (List ℕ)) → request_of words ≡ Ok (Files shown tree) → AreRecords records input
    → ((n : ℕ) → e ≢ fault.Record n) → e ≢ fault.Memory → e ≢ fault.Read
    → ((Stored : ObjectId → Type 0) → Serves Stored (readable false (stored records)) [] old (Files shown tree) answer new → P (stored records) e)
    → Runs words (Some input) old answer new → answer ≡ Err e → P (stored records) e
reported P words input records shown tree e answer old new asked are no_record no_memory no_read by without_memory is = absurd (no_memory (sym (err_same is)))
reported P words input records shown tree e answer old new asked are no_record no_memory no_read by (no_command t) is = let n : Err _ ≡ Ok (Files shown tree) = sym t ∙ asked in cc
reported P words input records shown tree e answer old new asked are no_record no_memory no_read by (not_read other t) is = absurd (no_read (sym (err_same is)))
reported P words input records shown tree e answer old new asked are no_record no_memory no_read by (bad_record other there n t same b) is = absurd (no_record n (sym (err_same is)))
reported P words input records shown tree e answer old new asked are no_record no_memory no_read by (served other there read t same is_read s) is =
    by (HasObject (stored records) [])
    (subst (λ r. Serves (HasObject (stored records) []) (readable (reads_all_lines r) (stored records)) [] old r answer new) (ok_same (sym t ∙ asked)) (subst (λ rs. Serves (HasObject (stored rs) []) (readable (reads_all_lines other) (stored rs)) [] old other answer new) (only_reading read records input (subst (AreRecords read) same is_read) are) s))

pub files_report_names : FilesReportNames
files_report_names words input records shown tree i old new asked are runs =
    reported (λ objects e. Misnames objects tree i) words input records shown tree (fault.Name i) (Err (fault.Name i)) old new asked are (λ n e. cc) (λ e. cc) (λ e. cc)
    (λ Stored s. misnames_back false (stored records) tree i (reports (readable false (stored records)) shown tree i (Err (fault.Name i)) old new s refl)) runs refl

pub files_report_entries : FilesReportEntries
files_report_entries words input records shown tree n old new asked are runs =
    reported (λ objects e. Counted objects shown tree n) words input records shown tree (fault.Entries n) (Err (fault.Entries n)) old new asked are (λ m e. cc) (λ e. cc) (λ e. cc)
    (λ Stored s.
    let c = counts (readable false (stored records)) shown tree n (Err (fault.Entries n)) old new s refl in
    (c.0, unfolds_back false (stored records) tree c.0 c.1, c.2, c.3, c.4)) runs refl
