-- What a run of `files` answers, by the survey of its tree.
use Rattle.std.proofs.Common.{◌≡◌, ◌≢◌, ◌≤◌, ◌<◌, ℕ, ◌-◌, ◌^◌, min, List, map, take, take_all, length, IfSome, inl, inr, Bool, true, false, nat_lt, refl, Option, None, Some, Result, Ok, Err, flat_map, sym, ap, subst, ◌∙◌, arith, if◌then◌else◌, option_map, ltb-false, ltb-true}
use Rattle.std.specs.Option.{option_or}
use Rattle.std.proofs.lemmas.List.{length-map}
use Rattle.gix_commands.proofs.Common.{get, ObjectId, Objects, GraphRow, Fault, Items, Object, IsDepthScript, DepthScript, Whole, LookUpFails, trees_of, items_of_object, with_rows, depth_is_recorded, fault_of_tree_walk, file_line, file_lines, allowed, never_faulty, not_listed}
use Rattle.gix_commands.proofs.Common.{Call, EntryLines, Files, unserved}
use Rattle.gix_object.specs.declared.find.existing_iter.Error.{Error as ExistingError}
use Rattle.gix_graph_store.specs.RowText.{text_at}
use Rattle.gix_graph_store.specs.WithRows.{commit_object}
use Rattle.gix_graph_store.proofs.ToldObjects.{get-with_rows}
use Rattle.gix_lines.specs.declared.Error.{Error as LinesError}
use Rattle.gix_lines.specs.Output.{WritesLines}
use Rattle.gix_tree.specs.declared.breadthfirst.Error.{Error}
use Rattle.gix_tree.specs.declared.breadthfirst.Error.TheVariants as error
use Rattle.gix_tree.specs.Paths.{HaveNames}
use Rattle.gix_tree.specs.Recorder.{record_of}
use Rattle.gix_tree.specs.Script as script
use Rattle.gix_tree.specs.Visits.{Place, Visit}
use Rattle.gix_tree.proofs.Theorems.SameRecords.{GoOn}
use Rattle.gix_tree_size.specs.declared.Survey.{Survey}
use Rattle.gix_tree_size.specs.Survey.{FailsSo, IsFirstMisnamed, IsSurvey, capped, deepest}
use Rattle.gix_words.specs.Faults.{fault_of_lines}
use Rattle.gix_words.specs.declared.fault.Fault.TheVariants as fault
use Rattle.gix_commands.specs.Files.{most_entries, number_of_lines}
use Rattle.gix_commands.specs.Readable.{readable}
use Rattle.gix_commands.specs.Run.{Serves, listed, misnamed, too_many}
use Rattle.gix_commands.proofs.ReadableObjects.{all_trees_same}
use Rattle.gix_commands.proofs.ServedCalls.{nothing_written, written_or_begun}
use Rattle.gix_commands.proofs.TreeFacts.{ends_whole, goes_on}

pub none_of : {A : Type 0} (o : Option A) → ((x : A) → o ≡ Some x → ⊥) → o ≡ None
none_of None h = refl
none_of (Some x) h = absurd (h x refl)

-- the trees of what is stored are read, whatever rows there are
trees_rowed : (rows : List GraphRow) (objects : Objects) (i : ObjectId) → trees_of (with_rows rows objects) i ≡ trees_of objects i
trees_rowed rows objects i = ap (items_of_object i) (get-with_rows rows objects i) ∙ either (get objects i) (text_at rows i)
  where
    either : (o : Option Object) (text : Option (List ℕ)) → items_of_object i (option_or o (option_map commit_object text)) ≡ items_of_object i o
    either (Some o) text = refl
    either None None = refl
    either None (Some text) = refl

pub trees_stored : (rows : List GraphRow) (objects : Objects) → trees_of (readable false (with_rows rows objects)) ≡ trees_of objects
trees_stored rows objects = all_trees_same false (with_rows rows objects) ∙ (λ k i. trees_rowed rows objects i k)

-- in a walk that shows all no look-up fails
module _ (trees : ObjectId → Option Items) (fails : ObjectId → ExistingError → Type 0) where
  unfailing_below : {p : Place} {items : Items} {calls : List Call} {visits : List Visit} → DepthScript trees fails p items calls visits Whole → DepthScript trees (λ _ _. ⊥) p items calls visits Whole
  unfailing_below script.whole = script.whole
  unfailing_below (script.leaves o rest) = script.leaves o (unfailing_below rest)
  unfailing_below (script.enters o read inner rest) = script.enters o read (unfailing_below inner) (unfailing_below rest)
  unfailing_below (script.ends_inside o read inner other) = absurd (other refl)

  unfailing : {root : ObjectId} {calls : List Call} {visits : List Visit} → IsDepthScript trees fails root calls visits Whole → IsDepthScript trees (λ _ _. ⊥) root calls visits Whole
  unfailing (script.found read walk) = script.found read (unfailing_below walk)

-- how the answer of a call that writes lines ends a run
abbrev pub run_of_lines : Result (Unit {0}) LinesError → Result (Unit {0}) Fault
run_of_lines (Ok done) = Ok done
run_of_lines (Err e) = Err (fault_of_lines e)

-- of a list, as many are taken as a limit allows
taken : {A : Type 0} (limit : Option ℕ) (xs : List A) (number : ℕ) → IfSome limit (λ most. most ≤ 2 ^ 64 - 1) → number_of_lines limit (capped (length xs)) ≡ Ok number → (take number xs ≡ allowed limit xs) × (number ≤ length xs)
taken (Some most) xs number bound is =
    let so : min most (capped (length xs)) ≡ number = cc in
    choose (nat_lt most (length xs)) refl so
  where
    choose : (b : Bool) → nat_lt most (length xs) ≡ b → min most (capped (length xs)) ≡ number → (take number xs ≡ take most xs) × (number ≤ length xs)
    choose true less so =
        let small : most < length xs = ltb-true most (length xs) less in
        let same : number ≡ most = omega (arith, small, bound, so) in
        (ap (λ n. take n xs) same, omega (arith, small, same))
    choose false more so =
        let big : length xs ≤ most = omega (arith, ltb-false most (length xs) more) in
        let all : number ≡ length xs = omega (arith, big, bound, so) in
        (ap (λ n. take n xs) all ∙ take_all (length xs) xs (omega arith) ∙ sym (take_all most xs big), omega (arith, all))
taken None xs number bound is = choose (nat_lt most_entries (capped (length xs))) refl is
  where
    choose : (b : Bool) → nat_lt most_entries (capped (length xs)) ≡ b → (if b then Err (fault.Entries (capped (length xs))) else Ok (capped (length xs))) ≡ Ok number → (take number xs ≡ xs) × (number ≤ length xs)
    choose true more so = cc
    choose false few so =
        let within : capped (length xs) ≤ most_entries = omega (arith, ltb-false most_entries (capped (length xs)) few) in
        let is_it : capped (length xs) ≡ number = cc in
        let all : number ≡ length xs = omega (arith, within, is_it) in
        (ap (λ n. take n xs) all ∙ take_all (length xs) xs (omega arith), omega (arith, all))

module _ (Stored : ObjectId → Type 0) (objects : Objects) (rows : List GraphRow) (old : Option (List ℕ)) (shown : EntryLines) (tree : ObjectId) where
  abbrev ServesFiles : Result (Unit {0}) Fault → Option (List ℕ) → Type 0
  ServesFiles = Serves Stored objects rows old (Files shown tree)

  -- the walk fails
  pub survey_failed : (store : Objects) → store ≡ objects → (result : Result (Unit {0}) Fault) (e : Fault) (why : Error) → result ≡ Err e → e ≡ fault_of_tree_walk why → (why ≢ error.Memory → FailsSo store (never_faulty store) tree why) → ServesFiles result old
  survey_failed store is result e why same from fails =
      nothing_written Stored objects rows old (Files shown tree) result e same (λ other.
      let f = subst (λ o. FailsSo o (never_faulty o) tree why) is (fails (λ m. other (from ∙ ap fault_of_tree_walk m))) in
      subst (λ x. ServesFiles (Err x) old) (sym from) (not_listed f.0 why f.1))

  module _ (store : Objects) (is : store ≡ objects) (s : Survey) (surveyed : IsSurvey store (never_faulty store) tree s) where
    here : IsSurvey objects (never_faulty objects) tree s
    here = subst (λ o. IsSurvey o (never_faulty o) tree s) is surveyed

    -- a name is none
    pub name_failed : (i : ObjectId) → s.misnamed ≡ Some i → ServesFiles (Err (fault.Name i)) old
    name_failed i found = misnamed here.recorder here.walk (subst (IsFirstMisnamed here.walk.visits) found here.misnamed)

    module _ (none : s.misnamed ≡ None) where
      named : HaveNames here.walk.visits
      named = subst (IsFirstMisnamed here.walk.visits) none here.misnamed

      -- there are too many entries
      pub entries_failed : (result : Result (Unit {0}) Fault) (e : Fault) → result ≡ Err e → number_of_lines shown.limit s.entries ≡ Err e → ServesFiles result old
      entries_failed result e same = choose shown.limit refl
        where
          look : shown.limit ≡ None → (b : Bool) → nat_lt most_entries s.entries ≡ b → (if b then Err (fault.Entries s.entries) else Ok s.entries) ≡ Err e → ServesFiles result old
          look at true more is_it =
              let many : most_entries < length here.walk.visits = omega (arith, ltb-true most_entries s.entries more, here.entries) in
              let it : fault.Entries s.entries ≡ e = cc in
              subst (λ r. ServesFiles r old) (ap (λ n. Err (fault.Entries n)) (sym here.entries) ∙ ap (λ f. Err f) it ∙ sym same) (too_many here.recorder here.walk named at many)
          look at false more is_it = cc

          choose : (limit : Option ℕ) → shown.limit ≡ limit → number_of_lines limit s.entries ≡ Err e → ServesFiles result old
          choose (Some most) at is_it = cc
          choose None at is_it = look at (nat_lt most_entries s.entries) refl is_it

      -- the lines were written, or the writer failed
      module _ (stored : Objects) (same : trees_of objects ≡ trees_of stored) (number : ℕ) (bound : IfSome shown.limit (λ most. most ≤ 2 ^ 64 - 1)) (few : number_of_lines shown.limit s.entries ≡ Ok number) (counted : s.depth ≢ 2 ^ 64 - 1)
          (new : Option (List ℕ)) (answer : Result (Unit {0}) LinesError) where
        abbrev Written : Type 0
        Written =
            (calls : List Call) (visits : List Visit) → IsDepthScript (trees_of stored) (λ _ _. ⊥) tree calls visits Whole → GoOn visits → number ≤ length visits
            → deepest visits ≤ s.depth → WritesLines old (flat_map (file_line shown.ending) (take number (map record_of visits))) answer new

        lines_taken : (take number (map record_of here.walk.visits) ≡ allowed shown.limit here.recorder.held.records) × (number ≤ length here.walk.visits)
        lines_taken =
            let recorded : here.recorder.held.records ≡ map record_of here.walk.visits = depth_is_recorded objects (never_faulty objects) tree here.recorder (Ok tt) here.walk (λ e. cc) named in
            let count : length (map record_of here.walk.visits) ≡ length here.walk.visits = length-map here.walk.visits record_of in
            let t = taken shown.limit (map record_of here.walk.visits) number bound (subst (λ n. number_of_lines shown.limit n ≡ Ok number) (here.entries ∙ ap capped (sym count)) few) in
            (t.0 ∙ ap (allowed shown.limit) (sym recorded), omega (arith, t.1, count))

        written : Written → WritesLines old (file_lines shown here.recorder.held.records) answer new
        written writes =
            let script = subst (λ (t : ObjectId → Option Items). IsDepthScript t (λ _ _. ⊥) tree here.walk.calls here.walk.visits Whole) same
            (unfailing (trees_of objects) (LookUpFails objects (never_faulty objects)) (subst (IsDepthScript (trees_of objects) (LookUpFails objects (never_faulty objects)) tree here.walk.calls here.walk.visits) (ends_whole objects tree here.recorder here.walk.script here.walk.run here.walk.answered) here.walk.script)) in
            let deep : deepest here.walk.visits ≤ s.depth = omega (arith, here.depth, counted) in
            subst (λ records. WritesLines old (flat_map (file_line shown.ending) records) answer new) lines_taken.0
            (writes here.walk.calls here.walk.visits script (goes_on objects tree here.recorder here.walk.script here.walk.run) lines_taken.1 deep)

        pub files_written : Written → (result : Result (Unit {0}) Fault) → result ≡ run_of_lines answer → ServesFiles result new
        files_written writes result is = subst (λ r. ServesFiles r new) (sym is) (choose answer (written writes))
          where
            lines : List ℕ
            lines = file_lines shown here.recorder.held.records

            choose : (a : Result (Unit {0}) LinesError) → WritesLines old lines a new → ServesFiles (run_of_lines a) new
            choose (Ok done) all = listed here.recorder here.walk named all
            choose (Err e) (inl (memory, none)) = subst (λ f. ServesFiles (Err (fault_of_lines f)) new) (sym memory) (subst (λ o. ServesFiles (Err fault.Memory) o) (sym none) unserved)
            choose (Err e) (inr broke) =
                written_or_begun Stored objects rows old (Files shown tree) lines (λ full h. listed here.recorder here.walk named h) new (Err (fault_of_lines e)) tt (ap fault_of_lines broke.0, broke.1)
