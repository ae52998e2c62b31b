-- What a run may answer.
use Rattle.std.proofs.Common.{◌≡◌, ◌≢◌, ℕ, List, [], ◌∷◌, Option, Some, None, Result, Ok, Err, refl, sym, subst, ap, ◌∙◌}
use Rattle.gix_commands.proofs.Common.{get, same_map, ObjectId, Object, Objects, id_total, id_apart, with_rows, GraphRow, IsAgreeing, none_agree, Info, Parents, Fault, Order, Simple, Topo, fault_of_records, fault_of_walk, fault_of_topo_walk, WritesAll, stored, walked, not_walked, walked_down, not_built, not_listed, not_counted, not_selected, not_reaching, not_joined, unserved, Runs, without_memory, no_command, Shown, Writes, kept_in}
use Rattle.gix_commands.proofs.Common.{not_read, bad_record, served, StartsFrom, FailsAtStart, IsStartFault, Ends, EndsBy, finished, cut_short, enough, before, Request, Commits, request_of, no_bad_record}
use Rattle.std.specs.Option.{option_or}
use Rattle.gix_graph_store.proofs.ToldObjects.{get-with_rows}
use Rattle.gix_simple.specs.declared.Error.{Error}
use Rattle.gix_simple.specs.declared.Sorting.{Sorting}
use Rattle.gix_topo.specs.declared.Error.{Error as TopoError}
use Rattle.gix_topo.specs.declared.Sorting.{Sorting as TopoSorting}
use Rattle.gix_words.specs.declared.fault.Fault.TheVariants as fault
use Rattle.gix_records.specs.Input.{Tells}
use Rattle.gix_records.specs.declared.Error.{Error as RecordsError}
use Rattle.gix_records.specs.Reading.{IsReadFrom, IsReadFault}
use Rattle.gix_records.specs.Reading as reading
use Rattle.gix_records.specs.Records.{Record, AreRecords}
use Rattle.gix_simple.specs.declared.Sorting.TheVariants as sorting
use Rattle.gix_commands.specs.Checked.{CheckedWalk, Checks, first_lost}
use Rattle.gix_commands.specs.Chosen.{Choosing, HasObject, HasText, HasTextIn, fresh_choosing, line_in}
use Rattle.gix_commands.specs.Output as output
use Rattle.gix_commands.specs.Output.{WritesBegun, cut}
use Rattle.gix_commands.specs.Readable.{readable, reads_all_lines}
use Rattle.gix_commands.specs.Run as run
use Rattle.gix_commands.specs.Run.{Serves, ServesOver, cut_off}
use Rattle.gix_commands.proofs.ReadableObjects.{readable_agrees}
use Rattle.gix_commands.specs.TopoWalked as topo
use Rattle.gix_commands.specs.Walked.{Walk, Answers, Have, IsWalkFault, failed, unstored}
use Rattle.gix_commands.proofs.CheckedWalks.{IsChecked, IsItself, from_by, well, lacking}
use Rattle.gix_commands.proofs.LostParents.{lost_so}
use Rattle.gix_commands.proofs.MemoryFaults.{failed_so}
use Rattle.gix_commands.proofs.InternalFacts.{IsSound, next_sound, start_sound, bases_sound, contained_sound}
use Rattle.gix_commands.proofs.TopoInternalFacts.{drawn_sound, built_agreeing, build_sound}
use Rattle.gix_commands.proofs.TreeFacts.{tree_sound}
use Rattle.gix_commands.proofs.WalkFaults.{OfWalk, serves_of_walk}
use Rattle.gix_commands.proofs.SameWords.{OfWords, request_words}
use Rattle.gix_commands.proofs.ServedCalls.{nothing_written}

pub err_same : {e f : Fault} → ◌≡◌ {A = Result (Unit {0}) Fault} (Err e) (Err f) → e ≡ f
err_same same = cc

-- without rows a store has its own objects alone
pub without_rows : (objects : Objects) → with_rows [] objects ≡ objects
without_rows objects = same_map id_total id_apart _ _ (λ i. get-with_rows [] objects i ∙ alone (get objects i))
  where
    alone : (o : Option Object) → option_or o None ≡ o
    alone None = refl
    alone (Some object) = refl

-- no walk over records ends by an internal fault
ends_sound : {Has : ObjectId → Type 0} {walk : Walk} {infos : List Info} {answer : Result (Unit {0}) Fault} → Ends Answers IsWalkFault Has walk infos answer → answer ≢ Err fault.Internal
ends_sound (finished new h) = λ e. cc
ends_sound (failed e f new h is) = λ same. let sound : IsSound (Some (Err e)) = next_sound h.2 in sound (sym is ∙ err_same same)
ends_sound (cut_short info new h) = λ e. cc
ends_sound (unstored info new h none) = λ e. cc

topo_ends_sound : {Has : ObjectId → Type 0} {walk : topo.Walk} {infos : List Info} {answer : Result (Unit {0}) Fault} → IsAgreeing walk.plan.store walk.plan.rows → Ends topo.Answers topo.IsWalkFault Has walk infos answer → answer ≢ Err fault.Internal
topo_ends_sound agreeing (finished new h) = λ e. cc
topo_ends_sound {walk = walk} agreeing (failed e f new h is) = λ same. drawn_sound walk new _ e agreeing h (sym is ∙ err_same same)
topo_ends_sound agreeing (cut_short info new h) = λ e. cc
topo_ends_sound agreeing (unstored info new h none) = λ e. cc

by_sound : (Has : ObjectId → Type 0) (those : List Info → List ObjectId) (limit : Option ℕ) (walk : Walk) (infos : List Info) {answer : Result (Unit {0}) Fault} → EndsBy Answers IsWalkFault Has those limit walk infos answer → answer ≢ Err fault.Internal
by_sound Has those None walk infos ends = ends_sound ends
by_sound Has those (Some n) walk infos (enough at h e) = λ e. cc
by_sound Has those (Some n) walk infos (before ends less) = ends_sound ends

topo_by_sound : (Has : ObjectId → Type 0) (those : List Info → List ObjectId) (limit : Option ℕ) (walk : topo.Walk) (infos : List Info) {answer : Result (Unit {0}) Fault} → IsAgreeing walk.plan.store walk.plan.rows → EndsBy topo.Answers topo.IsWalkFault Has those limit walk infos answer → answer ≢ Err fault.Internal
topo_by_sound Has those None walk infos agreeing ends = topo_ends_sound agreeing ends
topo_by_sound Has those (Some n) walk infos agreeing (enough at h e) = λ e. cc
topo_by_sound Has those (Some n) walk infos agreeing (before ends less) = topo_ends_sound agreeing ends

lost_sound : (objects : Objects) (rows : List GraphRow) (ids : List ObjectId) (why : Fault) → (why ≢ fault.Memory → first_lost objects rows ids ≡ Some why) → why ≢ fault.Internal
lost_sound objects rows ids why h same =
    let internal : fault.Internal ≢ fault.Memory = λ e. cc in
    lost_so (λ e. e ≢ fault.Internal) (λ i e. cc) (λ i e. cc) (λ e. cc) objects rows ids why (h (λ m. internal (sym same ∙ m))) same

pub serves_sound : {Stored : ObjectId → Type 0} {objects : Objects} {rows : List GraphRow} {old new : Option (List ℕ)} {request : Request} {answer : Result (Unit {0}) Fault} → IsAgreeing objects rows → Serves Stored objects rows old request answer new → answer ≢ Err fault.Internal
serves_sound {Stored = Stored} {objects = objects} agreeing (walked {shown = shown} walk infos s ends have whole a) = by_sound (HasText Stored shown) (kept_in objects shown) shown.limit walk infos ends
serves_sound {objects = objects} {rows = rows} agreeing (run.lost walk at infos {why = why} by s h more l have a) = λ same. lost_sound objects rows l.last.parent_ids.items why l.lacks (err_same same)
serves_sound agreeing (not_walked why f) = λ same. start_sound f (err_same same)
serves_sound {Stored = Stored} {objects = objects} agreeing (walked_down {shown = shown} walk infos built ends have a) = topo_by_sound (HasText Stored shown) (kept_in objects shown) shown.limit walk infos (built_agreeing built agreeing) ends
serves_sound {objects = objects} {rows = rows} agreeing (not_built {parents = m} {by = by} {tips = tips} {ends = ends} why h) = λ same. build_sound objects rows agreeing m by tips ends why h (err_same same)
serves_sound {objects = objects} agreeing (not_listed recorder why r) = λ same. tree_sound objects r (err_same same)
serves_sound {objects = objects} {rows = rows} agreeing (not_counted {one = one} {other = other} why f) = λ same. bases_sound objects rows agreeing one (other ∷ []) why f (err_same same)
serves_sound {objects = objects} {rows = rows} agreeing (not_selected {tip = tip} {ids = ids} why f) = λ same. contained_sound objects rows (tip ∷ []) ids why f (err_same same)
serves_sound {objects = objects} {rows = rows} agreeing (not_reaching {target = target} {tips = tips} why f) = λ same. bases_sound objects rows agreeing target tips why f (err_same same)
serves_sound {objects = objects} {rows = rows} agreeing (not_joined {one = one} {others = others} why f) = λ same. bases_sound objects rows agreeing one others why f (err_same same)
serves_sound agreeing s = λ e. cc

-- the same over what is stored and rows
pub over_is_sound : (objects : Objects) (rows : List GraphRow) (request : Request) {old new : Option (List ℕ)} {answer : Result (Unit {0}) Fault} → IsAgreeing (with_rows rows objects) rows → ServesOver objects rows old request answer new → answer ≢ Err fault.Internal
over_is_sound objects rows request agreeing = serves_sound (readable_agrees (reads_all_lines request) (with_rows rows objects) rows agreeing)

pub runs_sound : {words : List (List ℕ)} {has old : Option (List ℕ)} {answer : Result (Unit {0}) Fault} {new : Option (List ℕ)} → Runs words has old answer new → answer ≢ Err fault.Internal
runs_sound without_memory = λ e. cc
runs_sound {words} (no_command t) = λ same. subst OfWords (t ∙ ap (λ x. Err x) (err_same same)) (request_words words)
runs_sound (not_read request t) = λ e. cc
runs_sound (bad_record request input n t i b) = λ e. cc
runs_sound (served request input records t i r s) = serves_sound (none_agree (readable (reads_all_lines request) (stored records)) [] refl) s

pub told_same : (bytes input : List ℕ) (has : Option (List ℕ)) → has ≡ Some bytes → Tells has input → input ≡ bytes
told_same bytes input has is h = subst (λ (o : Option (List ℕ)). Tells o input) is h

-- where the reader has records, none is reported as bad
pub runs_spelled : {words : List (List ℕ)} {has old : Option (List ℕ)} {answer : Result (Unit {0}) Fault} {new : Option (List ℕ)} → Runs words has old answer new
    → (bytes : List ℕ) (records : List Record) (n : ℕ) → has ≡ Some bytes → AreRecords records bytes → answer ≢ Err (fault.Record n)
runs_spelled without_memory bytes records n is are = λ e. cc
runs_spelled {words} (no_command t) bytes records n is are = λ same. subst OfWords (t ∙ ap (λ x. Err x) (err_same same)) (request_words words)
runs_spelled (not_read request t) bytes records n is are = λ e. cc
runs_spelled {words} {has} (bad_record request input m t h b) bytes records n is are = λ _. no_bad_record m records input b (subst (AreRecords records) (sym (told_same bytes input has is h)) are)
runs_spelled (served request input read t h r s) bytes records n is are = λ same. subst OfWalk same (serves_of_walk s)

module _ (words : List (List ℕ)) (has old : Option (List ℕ)) where
  -- the words were no command
  pub runs_words : (result : Result (Unit {0}) Fault) (e : Fault) → result ≡ Err e → (e ≢ fault.Memory → request_of words ≡ Err e) → Runs words has old result old
  runs_words result e same h = failed_so (λ r. Runs words has old r old) without_memory result e same (λ other. no_command (h other))

  of_input : (request : Request) (e : RecordsError) → request_of words ≡ Ok request → IsReadFault has e → Runs words has old (Err (fault_of_records e)) old
  of_input request e t reading.not_read = not_read request t
  of_input request e t reading.without_memory = without_memory
  of_input request e t (reading.bad_record input {n = n} h b) = bad_record request input n t h b

  -- the input was no records, or wasn't read
  pub runs_input : (request : Request) (result : Result (Unit {0}) Fault) (e : RecordsError) (f : Fault) → request_of words ≡ Ok request → result ≡ Err f → f ≡ fault_of_records e → IsReadFault has e → Runs words has old result old
  runs_input request result e f t same is h = subst (λ (r : Result (Unit {0}) Fault). Runs words has old r old) (sym (same ∙ ap (λ x. Err x) is)) (of_input request e t h)

  module _ (request : Request) (t : request_of words ≡ Ok request) (objects : Objects) (read : IsReadFrom has objects) (new : Option (List ℕ)) where
    -- what was asked for was served
    pub runs_served : (result : Result (Unit {0}) Fault) → ServesOver objects [] old request result new → Runs words has old result new
    runs_served result s =
        let alone = subst (λ (o : Objects). Serves (HasObject objects []) (readable (reads_all_lines request) o) [] old request result new) (without_rows objects) s in
        served request read.0 read.1 t read.2 read.3 (subst (λ (o : Objects). Serves (HasObject o []) (readable (reads_all_lines request) o) [] old request result new) read.4 alone)

module _ (stored objects : Objects) (rows : List GraphRow) (old : Option (List ℕ)) (order : Order) (shown : Shown) (tips hidden : List ObjectId) where
  -- the walk was drawn, and all that is asked for was written or a beginning of it
  module _ {W E : Type 0} (Steps : W → Option (Result Info E) → W → Type 0) (Tells : E → Fault → Type 0) (walk : W) (serves : (result : Result (Unit {0}) Fault) (new : Option (List ℕ)) → WritesAll Steps Tells (HasText (HasObject stored rows) shown) (kept_in objects shown) shown.limit (line_in objects shown) shown.form walk old result new → Serves (HasObject stored rows) objects rows old (Commits order shown tips hidden) result new) where
    serves_drawn : {result : Result (Unit {0}) Fault} {new : Option (List ℕ)} → WritesBegun Steps Tells (HasText (HasObject stored rows) shown) (kept_in objects shown) shown.limit (line_in objects shown) shown.form walk old result new → Serves (HasObject stored rows) objects rows old (Commits order shown tips hidden) result new
    serves_drawn {result} {new} (output.written w) = serves result new w
    serves_drawn (cut {answer = answer} {full = full} some more w a b) = cut_off some more (serves answer full w) a b
    serves_drawn output.unwritten = unserved

  -- by what a chooser has of its own
  pub by_chooser : {W E : Type 0} (Steps : W → Option (Result Info E) → W → Type 0) (Tells : E → Fault → Type 0) (walk : W) (chooser : Choosing) → chooser ≡ fresh_choosing objects stored rows shown → {result : Result (Unit {0}) Fault} {new : Option (List ℕ)}
      → WritesBegun Steps Tells (HasTextIn chooser) (kept_in chooser.objects chooser.shown) chooser.shown.limit (line_in chooser.objects chooser.shown) chooser.shown.form walk old result new → WritesBegun Steps Tells (HasText (HasObject stored rows) shown) (kept_in objects shown) shown.limit (line_in objects shown) shown.form walk old result new
  by_chooser Steps Tells walk chooser is {result} {new} w = subst (λ (c : Choosing). WritesBegun Steps Tells (HasTextIn c) (kept_in c.objects c.shown) c.shown.limit (line_in c.objects c.shown) c.shown.form walk old result new) is w

module _ (stored objects : Objects) (rows : List GraphRow) (old : Option (List ℕ)) (m : Parents) (by : Sorting) (shown : Shown) (tips hidden : List ObjectId) where
  -- breadth first
  pub serves_walk : (new : Option (List ℕ)) (walk : Walk) (chooser : Choosing) → chooser ≡ fresh_choosing objects stored rows shown → by ≡ sorting.BreadthFirst → StartsFrom objects rows m by tips hidden walk → (result : Result (Unit {0}) Fault)
      → WritesBegun Answers IsWalkFault (HasTextIn chooser) (kept_in chooser.objects chooser.shown) chooser.shown.limit (line_in chooser.objects chooser.shown) chooser.shown.form walk old result new → Serves (HasObject stored rows) objects rows old (Commits (Simple m by) shown tips hidden) result new
  serves_walk new walk chooser is breadth starts result w =
      serves_drawn stored objects rows old (Simple m by) shown tips hidden Answers IsWalkFault walk (λ _ _ w. walked walk w.infos starts w.ends w.have (λ other. absurd (other breadth)) w.writes)
      (by_chooser stored objects rows old (Simple m by) shown tips hidden Answers IsWalkFault walk chooser is w)

  -- by time, by a checked walk
  checked_so : (new : Option (List ℕ)) (walk : Walk) → by ≢ sorting.BreadthFirst → StartsFrom objects rows m by tips hidden walk → (infos : List Info) {result : Result (Unit {0}) Fault} → Have (HasText (HasObject stored rows) shown) infos → Writes (line_in objects shown) shown.form result (kept_in objects shown infos) old new
      → IsChecked objects rows (HasText (HasObject stored rows) shown) (kept_in objects shown) walk shown.limit infos result → Serves (HasObject stored rows) objects rows old (Commits (Simple m by) shown tips hidden) result new
  checked_so new walk other starts infos have written (well ends whole) = walked walk infos starts ends have (λ _. whole) written
  checked_so new walk other starts infos have written (lacking at h more l) = run.lost walk at infos other starts h more l have written

  pub serves_checked : (new : Option (List ℕ)) (walk : Walk) (checked : CheckedWalk) (chooser : Choosing) → chooser ≡ fresh_choosing objects stored rows shown → checked ≡ record { walk = walk; objects = objects; rows = rows; lost = None } → by ≢ sorting.BreadthFirst → StartsFrom objects rows m by tips hidden walk
      → (result : Result (Unit {0}) Fault) → WritesBegun Checks IsItself (HasTextIn chooser) (kept_in chooser.objects chooser.shown) chooser.shown.limit (line_in chooser.objects chooser.shown) chooser.shown.form checked old result new → Serves (HasObject stored rows) objects rows old (Commits (Simple m by) shown tips hidden) result new
  serves_checked new walk checked chooser fresh is other starts result w = serves_drawn stored objects rows old (Simple m by) shown tips hidden Checks IsItself checked
      (λ result new w. checked_so new walk other starts w.infos w.have w.writes (from_by objects rows (HasText (HasObject stored rows) shown) (kept_in objects shown) walk shown.limit w.infos result (subst (λ c. EndsBy Checks IsItself (HasText (HasObject stored rows) shown) (kept_in objects shown) shown.limit c w.infos result) is w.ends)))
      (by_chooser stored objects rows old (Simple m by) shown tips hidden Checks IsItself checked chooser fresh w)

  not_started : (e : Fault) → (why : Error) × FailsAtStart objects by tips why × (e ≡ fault_of_walk why) → Serves (HasObject stored rows) objects rows old (Commits (Simple m by) shown tips hidden) (Err e) old
  not_started e h = subst (λ (f : Fault). Serves (HasObject stored rows) objects rows old (Commits (Simple m by) shown tips hidden) (Err f) old) (sym h.2) (not_walked h.0 h.1)

  -- the walk couldn't start
  pub serves_no_walk : (result : Result (Unit {0}) Fault) (e : Fault) → result ≡ Err e → IsStartFault objects by tips e → Serves (HasObject stored rows) objects rows old (Commits (Simple m by) shown tips hidden) result old
  serves_no_walk result e same h = nothing_written (HasObject stored rows) objects rows old (Commits (Simple m by) shown tips hidden) result e same (λ other. not_started e (h other))

module _ (stored objects : Objects) (rows : List GraphRow) (old : Option (List ℕ)) (m : Parents) (by : TopoSorting) (shown : Shown) (tips ends : List ObjectId) where
  pub serves_topo : (new : Option (List ℕ)) (walk : topo.Walk) (chooser : Choosing) → chooser ≡ fresh_choosing objects stored rows shown → topo.IsBuiltFrom objects rows m by tips ends (Ok walk) → (result : Result (Unit {0}) Fault)
      → WritesBegun topo.Answers topo.IsWalkFault (HasTextIn chooser) (kept_in chooser.objects chooser.shown) chooser.shown.limit (line_in chooser.objects chooser.shown) chooser.shown.form walk old result new → Serves (HasObject stored rows) objects rows old (Commits (Topo m by) shown tips ends) result new
  serves_topo new walk chooser fresh built result w =
      serves_drawn stored objects rows old (Topo m by) shown tips ends topo.Answers topo.IsWalkFault walk (λ _ _ w. walked_down walk w.infos built w.ends w.have w.writes)
      (by_chooser stored objects rows old (Topo m by) shown tips ends topo.Answers topo.IsWalkFault walk chooser fresh w)

  topo_not_built : (e : Fault) → (why : TopoError) × topo.IsBuiltFrom objects rows m by tips ends (Err why) × (e ≡ fault_of_topo_walk why) → Serves (HasObject stored rows) objects rows old (Commits (Topo m by) shown tips ends) (Err e) old
  topo_not_built e h = subst (λ (f : Fault). Serves (HasObject stored rows) objects rows old (Commits (Topo m by) shown tips ends) (Err f) old) (sym h.2) (not_built h.0 h.1)

  -- the walk couldn't be built
  pub serves_no_topo : (result : Result (Unit {0}) Fault) (e : Fault) → result ≡ Err e → topo.IsStartFault objects rows m by tips ends e → Serves (HasObject stored rows) objects rows old (Commits (Topo m by) shown tips ends) result old
  serves_no_topo result e same h = nothing_written (HasObject stored rows) objects rows old (Commits (Topo m by) shown tips ends) result e same (λ other. topo_not_built e (h other))

-- words that are a command aren't rejected
pub no_rejection : {command : Result Request Fault} {request : Request} {A : Type 0} → command ≡ Ok request → (e : Fault) → command ≡ Err e → A
no_rejection is e rejected = let no : ◌≡◌ {A = Result Request Fault} (Ok _) (Err e) = sym is ∙ rejected in cc
