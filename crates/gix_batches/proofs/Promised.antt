-- What the slices hold is what the page promises of the records.
use Rattle.std.proofs.Common.{◌≡◌, ◌≢◌, ◌<◌, ℕ, ℤ, Bool, true, false, List, [], ◌∷◌, ◌++◌, flat_map, Option, Some, None, Result, Ok, Err, IfErr, IfOk, refl, sym, ap, subst, ◌∙◌, inl, inr, arith}
use Rattle.std.specs.List.{AllByRecursion}
use Rattle.std.proofs.lemmas.List.{length-map, map-append}
use Rattle.gix_hash.specs.declared.ObjectId.{ObjectId}
use Rattle.gix_hash.proofs.Ids.Membership.{no_member}
use Rattle.gix_graph_store.specs.WithRows.{with_rows}
use Rattle.gix_object.specs.Object.{Objects}
use Rattle.gix_records.specs.Input.{Tells}
use Rattle.gix_records.specs.Reading.{IsReadFrom}
use Rattle.gix_revwalk.proofs.Rows.{none_agree}
use Rattle.gix_revwalk.specs.Commits.{time_of}
use Rattle.gix_revwalk.specs.Texts.{text_next}
use Rattle.gix_revwalk.specs.declared.Info.{Info}
use Rattle.gix_statement.specs.WholeStatement as page
use Rattle.gix_statement.specs.WholeStatement.{AreFed, IsCommit, Lists, Row, id_line, lists}
use Rattle.gix_statement.proofs.LinesOnce.{IsSpelled, fed_spelled}
use Rattle.gix_words.specs.Words.{Commits, Request, request_of}
use Rattle.gix_words.specs.declared.fault.Fault.{Fault}
use Rattle.gix_words.specs.declared.fault.Fault.TheVariants as fault
use Rattle.gix_words.specs.declared.words.Order.{Order}
use Rattle.gix_words.specs.declared.words.Order.TheVariants.{Simple, Topo}
use Rattle.gix_words.specs.declared.words.Form.TheVariants as form
use Rattle.gix_words.specs.declared.words.Shown.{Shown}
use Rattle.gix_records.specs.Records.{IsRecordFault}
use Rattle.gix_records.specs.declared.Error.{Error as RecordsError}
use Rattle.gix_records.proofs.ReadingFacts.{fails_from}
use Rattle.gix_simple.specs.declared.Sorting.TheVariants as sorting
use Rattle.gix_words.specs.Faults.{fault_of_records}
use Rattle.gix_words.specs.Words.{request_of_command}
use Rattle.gix_words.specs.declared.words.Command.{Command}
use Rattle.gix_words.specs.declared.words.Command.TheVariants as command_of
use Rattle.gix_commands.specs.Checked.{CheckedWalk, Checks}
use Rattle.gix_commands.specs.Chosen.{HasObject, HasText, fresh_choosing, kept_in, line_in}
use Rattle.gix_commands.specs.Output.{WritesBegun, written}
use Rattle.gix_commands.specs.TopoWalked as topo
use Rattle.gix_commands.specs.Pages.{page_objects}
use Rattle.gix_commands.specs.Readable.{readable, reads_all_lines}
use Rattle.gix_commands.specs.Run.{Runs, Serves, served}
use Rattle.gix_commands.specs.StoredRuns as stored_runs
use Rattle.gix_commands.specs.Walked.{Answers, Any, EndsBy, IsWalkFault}
use Rattle.gix_commands.proofs.GivenRuns.{records_unread, serves_unread, words_unread}
use Rattle.gix_commands.proofs.ReadableTexts.{have_texts, bytes_kept, text_kept, tree_kept}
use Rattle.gix_commands.proofs.RightRuns.{unrowed_read}
use Rattle.gix_commands.proofs.RunFacts.{runs_input, runs_sound, runs_words, serves_checked, serves_sound, serves_topo, serves_walk, without_rows}
use Rattle.gix_commands.proofs.SameCommits.{are_fed}
use Rattle.gix_commands.proofs.GivenObjects.{HasAll, each_on, here_on, same_bytes, texts_on}
use Rattle.gix_commands.proofs.SameWords.{AreWordsOf, are_words}
use Rattle.gix_batches.specs.declared.commit.Batch.{Batch}
use Rattle.gix_batches.specs.declared.commit.Commit.{Commit}
use Rattle.gix_batches.specs.declared.commit.CommitId.{CommitId}
use Rattle.gix_batches.specs.declared.commit.Ending.{Ending}
use Rattle.gix_batches.specs.declared.commit.Ending.TheVariants.{Ended, More, Small, Failed}
use Rattle.gix_batches.specs.Batches.{IsNext, IsTold, Promises, Shows, gives, gives_none, has_ended}
use Rattle.gix_batches.specs.Failing.{Fails, FailsOver, HasNoList, IfFailed, asks_another, asks_for_other, asks_over, all_lines_to, no_memory, runs, runs_over}
use Rattle.gix_batches.specs.Draws.{Draws, Fills, failed, ids_given}
use Rattle.gix_batches.specs.Slices.{IsSkipped, Told, told_by, told_of}
use Rattle.gix_batches.specs.Walks.{FillsBy, IsItself, breadth, down, timed}
use Rattle.gix_batches.proofs.ShownWalks.{IsNextGood, all_kept, any_by, shown_breadth, shown_down, shown_timed}
use Rattle.gix_batches.proofs.ToldWords.{says_id}
use Rattle.gix_batches.proofs.Unwritten.{checked_by, records_unwritten, simple_by, topo_by, words_unwritten}

-- each id of these objects is spelled
abbrev pub AreSpelled : page.Objects → Type 0
AreSpelled objects = (i : ObjectId) (o : page.Object) → objects i ≡ Some o → IsSpelled i

has_text : {objects : page.Objects} → AreSpelled objects → (r : Row) → page.IsText objects r → IsSpelled r.id
has_text spelled r (id, lines, rest, tree, names, time, is) = spelled r.id _ is

-- FROM WHAT IS READ OF OBJECTS TO THE OBJECTS
module _ (all_lines : Bool) (objects : Objects) (words : List (List ℕ)) where
  abbrev seen : Objects
  seen = readable all_lines objects

  commit_on : (r : Row) → IsCommit (page_objects seen) [] r → IsCommit (page_objects objects) [] r
  commit_on r (inl text) = inl (text_kept all_lines objects r text)
  commit_on r (inr (none, c)) = absurd (no_member r c)

  told_on : (told : List Told) → AllByRecursion (IsTold (page_objects seen) words) told → AllByRecursion (IsTold (page_objects objects) words) told
  told_on [] all = tt
  told_on (t ∷ told) ((r, text, says), all) = ((r, text_kept all_lines objects r text, says), told_on told all)

  on : HasAll (page_objects seen) Any (page_objects objects) []
  on = record { commit = commit_on; tree = tree_kept all_lines objects; text = λ i any there. bytes_kept all_lines objects i there }

  lists_on : (ps : ObjectId → List ObjectId) (ts : ObjectId → ℤ) (bytes : List ℕ) (ended : Bool) (asked : List (List ℕ)) → Lists (page_objects seen) [] ps ts bytes ended asked → Lists (page_objects objects) [] ps ts bytes ended asked
  lists_on ps ts bytes ended asked (lists option more c ids named chooses some follows there texts begins allows all may is_written) =
      lists option more c ids named chooses some follows (λ k d few. here_on on _ (there k d few)) (texts_on on c ids (λ e i m. tt) there) begins allows all may (is_written ∙ same_bytes on ps ts c ids (λ e i m. tt) there)

  pub shows_on : (told : List Told) (ended : Bool) → Shows (page_objects seen) words told ended → Shows (page_objects objects) words told ended
  shows_on told ended s = record {
    lists = each_on on (λ ps ts h. lists_on ps ts (flat_map (λ (t : Told). id_line t.id) told) ended words (s.lists ps ts h));
    texts = told_on told s.texts;
  }

-- each id that has a text is spelled
told_spelled : (objects : page.Objects) (words : List (List ℕ)) → AreSpelled objects → (told : List Told) → AllByRecursion (IsTold objects words) told → AllByRecursion (λ t. IsSpelled t.id) told
told_spelled objects words spelled [] texts = tt
told_spelled objects words spelled (t ∷ told) ((r, text, says), texts) = (subst IsSpelled (sym (says_id r words t says)) (has_text spelled r text), told_spelled objects words spelled told texts)

told_both : (some infos : List Info) → told_by (some ++ infos) ≡ told_by some ++ told_by infos
told_both some infos = map-append told_of some infos

told_skipped : (skip : ℕ) (some infos : List Info) (ending : Ending) → IsSkipped skip some infos ending → IsSkipped skip (told_by some) (told_by infos) ending
told_skipped skip some infos ending (inl e) = inl (length-map some told_of ∙ e)
told_skipped skip some infos ending (inr (less, none, over)) = inr (subst (λ n. n < skip) (sym (length-map some told_of)) less, ap told_by none, over)

-- a served run that fails for no writer is why a batch fails
abbrev pub OfServed : Objects → (Fault → Type 0) → Request → Type 0
OfServed objects FailsSo request = (e : Fault) (lines : List ℕ) → Serves (HasObject objects []) (readable (reads_all_lines request) objects) [] (Some []) request (Err e) (Some lines)
    → e ≢ fault.Write → FailsSo e

-- over objects that are given so
module _ (words : List (List ℕ)) (objects : Objects) (AreGiven : page.Objects → Type 0) (given : AreGiven (page_objects objects)) (spelled : AreSpelled (page_objects objects)) (FailsSo : Fault → Type 0) (skip : ℕ) (old new : List Commit) (rooms filled : List CommitId) where
  module _ (request : Request) where
    abbrev read : Objects
    read = readable (reads_all_lines request) objects

    abbrev GoodRead : Bool → List Info → Type 0
    GoodRead ended infos = Shows (page_objects read) words (told_by infos) ended

    next_told : (infos : List Info) (ending : Ending) → IsNextGood GoodRead infos ending → IsNext (page_objects objects) words (told_by infos) ending
    next_told infos Ended next = tt
    next_told infos More next = tt
    next_told infos (Failed e) next = tt
    next_told infos (Small n) (info, good, many) =
        (told_of info, shows_on (reads_all_lines request) objects words (told_by infos ++ told_of info ∷ []) false (subst (λ those. Shows (page_objects read) words those false) (told_both infos (info ∷ [])) good), many)

    -- what a walk filled
    module _ {W E : Type 0} (Steps : W → Option (Result Info E) → W → Type 0) (Tells : E → Fault → Type 0) (limit : Option ℕ) (walk : W) (batch : Batch) (f : Fills Steps Tells limit skip walk old new rooms filled batch)
        (shown : (infos : List Info) (ending : Ending) → Draws Steps Tells limit walk infos ending → GoodRead (has_ended ending) infos × IsNextGood GoodRead infos ending) where
      gives_so : Promises words AreGiven skip old new rooms filled batch
      gives_so =
          let s = shown (f.skipped ++ f.infos) batch.ending f.draws in
          let good = shows_on (reads_all_lines request) objects words (told_by f.skipped ++ told_by f.infos) (has_ended batch.ending) (subst (λ those. Shows (page_objects read) words those (has_ended batch.ending)) (told_both f.skipped f.infos) s.0) in
          gives (record {
            told = told_by f.infos;
            part = record {
              objects = page_objects objects;
              given = given;
              skipped = told_by f.skipped;
              shows = good;
              spelled = told_spelled (page_objects objects) words spelled (told_by f.skipped ++ told_by f.infos) good.texts;
              next = subst (λ those. IsNext (page_objects objects) words those batch.ending) (told_both f.skipped f.infos) (next_told (f.skipped ++ f.infos) batch.ending s.1);
              passed = told_skipped skip f.skipped f.infos batch.ending f.passed;
            };
            holds = f.holds;
            full = f.full;
          })

      module _ (of_served : OfServed objects FailsSo request) (lines : List Info → List ℕ) (serves : (infos : List Info) (e : Fault) → EndsBy Steps Tells Any ids_given limit walk infos (Err e) → Serves (HasObject objects []) read [] (Some []) request (Err e) (Some (lines infos)))
          (unwritten : (infos : List Info) (e : Fault) → EndsBy Steps Tells Any ids_given limit walk infos (Err e) → e ≢ fault.Write) where
        fails_so : (infos : List Info) (ending : Ending) → Draws Steps Tells limit walk infos ending → IfFailed FailsSo ending
        fails_so infos Ended d = tt
        fails_so infos More d = tt
        fails_so infos (Small n) d = tt
        fails_so infos (Failed e) (failed e2 ends) = of_served e2 (lines infos) (serves infos e2 ends) (unwritten infos e2 ends)

        pub both_so : Promises words AreGiven skip old new rooms filled batch × IfFailed FailsSo batch.ending
        both_so = (gives_so, fails_so (f.skipped ++ f.infos) batch.ending f.draws)

-- what is drawn of a walk is shown by these words
abbrev ShowsDrawn : {W E : Type 0} → Objects → (W → Option (Result Info E) → W → Type 0) → (E → Fault → Type 0) → Option ℕ → W → List (List ℕ) → Type 0
ShowsDrawn objects Steps Tells limit walk words = (infos : List Info) (ending : Ending) → Draws Steps Tells limit walk infos ending
    → Shows (page_objects objects) words (told_by infos) (has_ended ending) × IsNextGood (λ ended infos. Shows (page_objects objects) words (told_by infos) ended) infos ending

module _ (words : List (List ℕ)) (objects : Objects) (AreGiven : page.Objects → Type 0) (given : AreGiven (page_objects objects)) (spelled : AreSpelled (page_objects objects)) (FailsSo : Fault → Type 0) (limit : Option ℕ) (tips hidden : List ObjectId) where
  -- why a batch fails over a list in this order
  abbrev pub IsServed : Order → Type 0
  IsServed order = OfServed objects FailsSo (Commits order (all_lines_to limit) tips hidden)

  module _ (skip : ℕ) (old new : List Commit) (rooms filled : List CommitId) (batch : Batch) where
    abbrev pub IsPromised : Type 0
    IsPromised = Promises words AreGiven skip old new rooms filled batch × IfFailed FailsSo batch.ending

    abbrev shown_all : Shown
    shown_all = all_lines_to limit

    abbrev seen_by : Order → Objects
    seen_by order = readable (reads_all_lines (Commits order shown_all tips hidden)) objects

    -- the lines of the commits that a walk gave before its fault
    abbrev lines_by : Objects → List Info → List ℕ
    lines_by o infos = flat_map (line_in o shown_all) (kept_in o shown_all infos)

    module _ {W E : Type 0} (Steps : W → Option (Result Info E) → W → Type 0) (Tells : E → Fault → Type 0) (o : Objects) (walk : W) where
      writes_lines : (infos : List Info) (e : Fault) → EndsBy Steps Tells Any ids_given limit walk infos (Err e) → WritesBegun Steps Tells (HasText (HasObject objects []) shown_all) (kept_in o shown_all) limit (line_in o shown_all) form.Lines walk (Some []) (Err e) (Some (lines_by o infos))
      writes_lines infos e ends = written (record {
        infos = infos;
        ends = any_by Steps Tells (HasText (HasObject objects []) shown_all) walk infos (kept_in o shown_all) limit (Err e) (subst (λ (those : List Info → List ObjectId). EndsBy Steps Tells Any those limit walk infos (Err e)) (λ k xs. sym (all_kept limit (text_next o) (time_of o) (ids_given xs)) k) ends);
        have = λ info c e. let no : false ≡ true = e in cc;
        writes = refl;
      })

    by_order : (order : Order) → IsServed order → AreWordsOf words (Ok (Commits order shown_all tips hidden)) → FillsBy (seen_by order) limit tips hidden skip old new rooms filled batch order → IsPromised
    by_order order how (name, option, rest, is, named, chosen, place, chooses, some) (breadth {m = m} walk starts f) =
        let request = Commits (Simple m sorting.BreadthFirst) shown_all tips hidden in
        let o = seen_by (Simple m sorting.BreadthFirst) in
        both_so words objects AreGiven given spelled FailsSo skip old new rooms filled request Answers IsWalkFault limit walk batch f
        (subst (ShowsDrawn o Answers IsWalkFault limit walk) (sym is) (shown_breadth o (none_agree o [] refl) (unrowed_read o) name option rest limit tips hidden some place chooses m sorting.BreadthFirst named chosen (have_texts request objects) walk starts refl))
        how (lines_by o) (λ infos e ends. serves_walk objects o [] (Some []) m sorting.BreadthFirst shown_all tips hidden (Some (lines_by o infos)) walk (fresh_choosing o objects [] shown_all) refl refl starts (Err e) (writes_lines Answers IsWalkFault o walk infos e ends))
        (simple_by limit walk)
    by_order order how (name, option, rest, is, named, chosen, place, chooses, some) (timed {m = m} {by = by} walk other starts f) =
        let request = Commits (Simple m by) shown_all tips hidden in
        let o = seen_by (Simple m by) in
        let checked : CheckedWalk = record { walk = walk; objects = o; rows = []; lost = None } in
        both_so words objects AreGiven given spelled FailsSo skip old new rooms filled request Checks IsItself limit checked batch f
        (subst (ShowsDrawn o Checks IsItself limit checked) (sym is) (shown_timed o (none_agree o [] refl) (unrowed_read o) name option rest limit tips hidden some place chooses m by named chosen (have_texts request objects) walk starts))
        how (lines_by o) (λ infos e ends. serves_checked objects o [] (Some []) m by shown_all tips hidden (Some (lines_by o infos)) walk checked (fresh_choosing o objects [] shown_all) refl refl other starts (Err e) (writes_lines Checks IsItself o checked infos e ends))
        (checked_by o walk limit)
    by_order order how (name, option, rest, is, named, chosen, place, chooses, some) (down {m = m} {by = by} walk built f) =
        let request = Commits (Topo m by) shown_all tips hidden in
        let o = seen_by (Topo m by) in
        both_so words objects AreGiven given spelled FailsSo skip old new rooms filled request topo.Answers topo.IsWalkFault limit walk batch f
        (subst (ShowsDrawn o topo.Answers topo.IsWalkFault limit walk) (sym is) (shown_down o (none_agree o [] refl) (unrowed_read o) name option rest limit tips hidden some place chooses m by named chosen (have_texts request objects) walk built))
        how (lines_by o) (λ infos e ends. serves_topo objects o [] (Some []) m by shown_all tips hidden (Some (lines_by o infos)) walk (fresh_choosing o objects [] shown_all) refl built (Err e) (writes_lines topo.Answers topo.IsWalkFault o walk infos e ends))
        (topo_by limit walk)

  -- THE LAW: what a walk filled is promised
  module _ (order : Order) (asked : request_of words ≡ Ok (Commits order (all_lines_to limit) tips hidden)) (how : IsServed order) where
    abbrev pub FillsFrom : (skip : ℕ) (old new : List Commit) (rooms filled : List CommitId) → Batch → Type 0
    FillsFrom skip old new rooms filled batch = FillsBy (readable (reads_all_lines (Commits order (all_lines_to limit) tips hidden)) (with_rows [] objects)) limit tips hidden skip old new rooms filled batch order

    promised : (skip : ℕ) (old new : List Commit) (rooms filled : List CommitId) (batch : Batch) → FillsFrom skip old new rooms filled batch → IsPromised skip old new rooms filled batch
    promised skip old new rooms filled batch f =
        by_order skip old new rooms filled batch order how (subst (AreWordsOf words) asked (are_words words))
        (subst (λ (o : Objects). FillsBy (readable (reads_all_lines (Commits order (all_lines_to limit) tips hidden)) o) limit tips hidden skip old new rooms filled batch order) (without_rows objects) f)

    -- of a walk that could start
    pub filled_promised : (skip : ℕ) (old new : List Commit) (rooms filled : List CommitId) (result : Result Batch Fault) → IfOk result (FillsFrom skip old new rooms filled) → IfOk result (Promises words AreGiven skip old new rooms filled)
    filled_promised skip old new rooms filled (Ok batch) f = (promised skip old new rooms filled batch f).0
    filled_promised skip old new rooms filled (Err e) f = tt

    pub filled_fails : (skip : ℕ) (old new : List Commit) (rooms filled : List CommitId) (result : Result Batch Fault) → IfOk result (FillsFrom skip old new rooms filled) → IfOk result (λ batch. IfFailed FailsSo batch.ending)
    filled_fails skip old new rooms filled (Ok batch) f = (promised skip old new rooms filled batch f).1
    filled_fails skip old new rooms filled (Err e) f = tt

    -- and what one answers that couldn't
    pub unstarted_fails : (result : Result Batch Fault) → IfErr result (λ e. Serves (HasObject objects []) (readable (reads_all_lines (Commits order (all_lines_to limit) tips hidden)) (with_rows [] objects)) [] (Some []) (Commits order (all_lines_to limit) tips hidden) (Err e) (Some []))
        → IfErr result (λ e. e ≢ fault.Write) → IfErr result FailsSo
    unstarted_fails (Ok batch) s unwritten = tt
    unstarted_fails (Err e) s unwritten =
        how e [] (subst (λ (o : Objects). Serves (HasObject objects []) (readable (reads_all_lines (Commits order (all_lines_to limit) tips hidden)) o) [] (Some []) (Commits order (all_lines_to limit) tips hidden) (Err e) (Some [])) (without_rows objects) s) unwritten

-- RECORDS: why a batch over them fails
module _ (words : List (List ℕ)) (records : List ℕ) where
  as_run : (e : Fault) (lines : List ℕ) → Runs words (Some records) (Some []) (Err e) (Some lines) → e ≢ fault.Read → e ≢ fault.Write → Fails words records e
  as_run e lines r unread unwritten = runs lines r unread unwritten (λ same. runs_sound r (ap (λ x. Err x) same))

  pub fails_words : (e : Fault) → (e ≢ fault.Memory → request_of words ≡ Err e) → Fails words records e
  fails_words e h = as_run e [] (runs_words words (Some records) (Some []) (Err e) e refl h) (words_unread words e h) (words_unwritten words e h)

  pub fails_list : (request : Request) {e : Fault} → request_of words ≡ Ok request → HasNoList request e → Fails words records e
  fails_list request asked (asks_another other) = asks_for_other request asked other
  fails_list request asked no_memory = fails_words fault.Memory (λ other. absurd (other refl))

  pub fails_records : (request : Request) (e : RecordsError) → request_of words ≡ Ok request → IsRecordFault records e → Fails words records (fault_of_records e)
  fails_records request e asked h =
      as_run (fault_of_records e) [] (runs_input words (Some records) (Some []) request (Err (fault_of_records e)) e (fault_of_records e) asked refl refl (fails_from (Some records) records _ _ refl refl h)) (records_unread h) (records_unwritten h)

  -- what was read of them is fed
  module _ (objects : Objects) (read : IsReadFrom (Some records) objects) where
    pub is_fed : AreFed (Some records) (page_objects objects)
    is_fed = subst (λ o. AreFed (Some records) (page_objects o)) (sym read.4) (are_fed read.1 (Some records) read.0 read.2 read.3)

    pub fed_so : AreSpelled (page_objects objects)
    fed_so = fed_spelled (Some records) (page_objects objects) is_fed

    pub served_fails : (order : Order) (limit : Option ℕ) (tips hidden : List ObjectId) → request_of words ≡ Ok (Commits order (all_lines_to limit) tips hidden) → IsServed words objects (AreFed (Some records)) is_fed fed_so (Fails words records) limit tips hidden order
    served_fails order limit tips hidden asked e lines s unwritten =
        as_run e lines (served (Commits order (all_lines_to limit) tips hidden) read.0 read.1 asked read.2 read.3 (subst (λ (o : Objects). Serves (HasObject o []) (readable (reads_all_lines (Commits order (all_lines_to limit) tips hidden)) o) [] (Some []) (Commits order (all_lines_to limit) tips hidden) (Err e) (Some lines)) read.4 s))
        (λ same. serves_unread s (ap (λ x. Err x) same)) unwritten

-- OBJECTS that are there: why a batch over them fails
pub fails_over_list : (request : Request) (objects : Objects) {e : Fault} → HasNoList request e → FailsOver request objects e
fails_over_list request objects (asks_another other) = asks_over other
fails_over_list request objects no_memory = runs_over [] stored_runs.without_memory (λ e. cc) (λ e. cc) (λ e. cc)

module _ (words : List (List ℕ)) (objects : Objects) (AreGiven : page.Objects → Type 0) (given : AreGiven (page_objects objects)) (spelled : AreSpelled (page_objects objects)) where
  pub served_over : (request : Request) (order : Order) (limit : Option ℕ) (tips hidden : List ObjectId) → request ≡ Commits order (all_lines_to limit) tips hidden → IsServed words objects AreGiven given spelled (FailsOver request objects) limit tips hidden order
  served_over request order limit tips hidden is e lines s unwritten =
      let listed : Request = Commits order (all_lines_to limit) tips hidden in
      subst (λ (r : Request). FailsOver r objects e) (sym is)
      (runs_over lines
      (stored_runs.served (λ i row l. absurd (omega (arith, l))) (λ row object c. absurd (no_member row c))
      (subst (λ (o : Objects). Serves (HasObject objects []) (readable (reads_all_lines listed) o) [] (Some []) listed (Err e) (Some lines)) (sym (without_rows objects)) s))
      (λ same. serves_unread s (ap (λ x. Err x) same)) unwritten
      (λ same. serves_sound (none_agree (readable (reads_all_lines listed) objects) [] refl) s (ap (λ x. Err x) same)))

-- ANOTHER COMMAND
pub is_other : (command : Command) → ((order : Order) (shown : Shown) (tips hidden : _) → command ≡ command_of.Commits order shown tips hidden → ⊥) → (by : Order) (limit : Option ℕ) (tips hidden : List ObjectId) → request_of_command command ≢ Commits by (all_lines_to limit) tips hidden
is_other (command_of.Commits order some shown below) other by limit tips hidden = λ e. other order some shown below refl
is_other (command_of.Files shown tree) other by limit tips hidden = λ e. cc
is_other (command_of.Ahead one two) other by limit tips hidden = λ e. cc
is_other (command_of.Contained tip ids) other by limit tips hidden = λ e. cc
is_other (command_of.Containing target ids) other by limit tips hidden = λ e. cc
is_other (command_of.Bases one others) other by limit tips hidden = λ e. cc

-- or other lines than all
pub is_chosen : (order : Order) (shown : Shown) (tips hidden : List ObjectId) → shown ≢ all_lines_to shown.limit → (by : Order) (limit : Option ℕ) (others below : List ObjectId) → Commits order shown tips hidden ≢ Commits by (all_lines_to limit) others below
is_chosen order shown tips hidden other by limit others below = λ e.
    let same : shown ≡ all_lines_to limit = cc in
    let limits : shown.limit ≡ limit = ap (λ (s : Shown). s.limit) same in
    other (same ∙ ap all_lines_to (sym limits))

-- WHAT IS GIVEN may be said in more words
pub gives_more : {AreGiven AreToo : page.Objects → Type 0} (more : (objects : page.Objects) → AreGiven objects → AreToo objects) (words : List (List ℕ)) (skip : ℕ) (old new : List Commit) (rooms filled : List CommitId) (batch : Batch)
    → Promises words AreGiven skip old new rooms filled batch → Promises words AreToo skip old new rooms filled batch
gives_more more words skip old new rooms filled batch (gives g) = gives (record {
  told = g.told;
  part = record { objects = g.part.objects; given = more g.part.objects g.part.given; skipped = g.part.skipped; shows = g.part.shows; spelled = g.part.spelled; next = g.part.next; passed = g.part.passed };
  holds = g.holds;
  full = g.full;
})
gives_more more words skip old new rooms filled batch (gives_none e is a b) = gives_none e is a b
