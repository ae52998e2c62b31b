-- The laws of the walks of trees, over what their contracts say.
use Rattle.std.proofs.Common.{◌≡◌, ◌≢◌, Bool, true, false, List, [], ◌∷◌, ◌++◌, map, Some, Result, Ok, Err, refl, sym, ap, ◌∙◌, subst, arith, IsPermutation, Continue}
use Rattle.std.proofs.lemmas.List.Sorted.{IsPermutation-map, All-permutation}
use Rattle.std.proofs.lemmas.List.Elements.{recursion_from_All, All-from_recursion}
use Rattle.gix_tree.proofs.Common.{AllByRecursion, ObjectId, Objects, TreeEntry, is_tree, Error, Path, Action, Call, Run, Items, Visit, visit_call_of, visit_call, Ending, Whole, Broken, Failed, IsUnfailed, is_broken, Turn, shows, IsName}
use Rattle.gix_tree.proofs.Common.{HaveNames, joined, unknown_root, known_root, items_or_none, entries_in, entries_at, IsDepthScript, IsPreorder, IsPreorderBeginning, Record, recorded, recorded_all, record_of, IsRecorderAnswer, trees_of}
use Rattle.gix_tree.proofs.Common.{LookUpFails, LookUpFailed, level_answer, depth_answer, BreadthFirst, DepthFirst, LevelsAreRecorded, DepthIsRecorded, BothRecordTheSame, LevelsAreInOrder, DepthIsInOrder, LevelsBeginInOrder}
use Rattle.gix_tree.proofs.Common.{DepthBeginsInOrder, MetLevelsSucceed, MetDepthSucceeds, SoundLevelsSucceed, SoundDepthSucceeds, LevelsEndAtBreak, DepthEndsAtBreak, OkWithoutBreak}
use Rattle.gix_tree.specs.declared.breadthfirst.Error.TheVariants as error
use Rattle.gix_hash.specs.Reach as reach
use Rattle.gix_tree.specs.Script as script
use Rattle.gix_tree.specs.Preorder as order
use Rattle.gix_tree.specs.Tracked.{Tracked, Tracks, fresh_recorder}
use Rattle.gix_tree.proofs.Depth.Script.{preorder, preorder_beginning}
use Rattle.gix_tree.proofs.Recording.Records.{fresh_level, fresh_depth}
use Rattle.gix_tree.proofs.TaskWalk.{ByLevels, InDepth, TaskWalk, level_walk, depth_walk}
use Rattle.gix_tree.proofs.Theorems.Called.{called}
use Rattle.gix_tree.proofs.Theorems.Order.{level_order, level_beginning}
use Rattle.gix_tree.proofs.Theorems.Met.{shows_whole, turn_whole, met}
use Rattle.gix_tree.proofs.Theorems.Sound.{run_only, sound_level_visits, sound_depth_visits}
use Rattle.gix_tree.proofs.Theorems.Breaks.{breaks_at, none_breaks, must_break, ok_without_break}
use Rattle.gix_tree.proofs.Theorems.SameRecords.{Shown, shown_by, GoOn, both_show, unbroken}

-- a run of a recorder that tracks paths is its function, and each visit was answered to go on
tracked_run : (old : Tracked) (calls : List Call) (new : Tracked) → old.location ≡ Some Path → Run Tracks old calls new → new.held ≡ recorded_all (Some Path) old.held calls
tracked_run old [] new at h = ap (λ r. r.held) h
tracked_run old (call ∷ calls) new at h =
    let one : h.0.held ≡ recorded (Some Path) old.held call = subst (λ l. h.0.held ≡ recorded l old.held call) at h.1.1.1 in
    tracked_run h.0 calls new (h.1.0 ∙ at) h.2 ∙ ap (λ r. recorded_all (Some Path) r calls) one

tracked_answers : (old : Tracked) (calls : List Call) (new : Tracked) → Run Tracks old calls new → AllByRecursion IsRecorderAnswer calls
tracked_answers old [] new h = tt
tracked_answers old (call ∷ calls) new h = (h.1.1.0, tracked_answers h.0 calls new h.2)

of_answer : (t : Bool) (e : TreeEntry) (a : Action) → IsRecorderAnswer (visit_call_of t e a) → a ≡ Continue true
of_answer true e a h = h
of_answer false e a h = h

-- a recorder answers each visit to go on
pub go_on : (visits : List Visit) → AllByRecursion (λ v. IsRecorderAnswer (visit_call v)) visits → GoOn visits
go_on [] h = tt
go_on (v ∷ visits) h = (of_answer (is_tree v.entry.mode) v.entry v.answer h.0, go_on visits h.1)

memory_left : (answer_of : Ending → Result (Unit {0}) Error) {answer : Result (Unit {0}) Error} {end : Ending} → answer_of (Failed error.Memory) ≡ Err error.Memory → answer ≡ answer_of end
    → answer ≢ Err error.Memory → end ≢ Failed error.Memory
memory_left answer_of memory is ne e = ne (is ∙ ap answer_of e ∙ memory)

level_ok : (end : Ending) → Ok tt ≡ level_answer end → end ≡ Whole
level_ok Whole e = refl
level_ok Broken e = cc
level_ok (Failed why) e = cc

pub depth_ok : (end : Ending) → Ok tt ≡ depth_answer end → IsUnfailed end
depth_ok Whole e = tt
depth_ok Broken e = tt
depth_ok (Failed why) e = cc

whole_end : (end : Ending) → IsUnfailed end → is_broken end ≡ false → end ≡ Whole
whole_end Whole w b = refl
whole_end Broken w b = cc
whole_end (Failed why) w b = absurd w

shown_named : (visits : List Visit) → HaveNames visits ≡ AllByRecursion (λ x. IsName x.entry.name) (map shown_by visits)
shown_named [] = refl
shown_named (v ∷ visits) = λ i. IsName v.entry.name × shown_named visits i

record_shown : Shown → Record
record_shown x = record { mode = x.entry.mode; path = joined (x.names ++ x.entry.name ∷ []); id = x.entry.id }

record_of_shown : (visits : List Visit) → map record_of visits ≡ map record_shown (map shown_by visits)
unfolding record_shown
record_of_shown [] = refl
record_of_shown (v ∷ visits) = ap (λ l. record_of v ∷ l) (record_of_shown visits)

module _ (objects : Objects) (faulty : ObjectId → Type 0) where
  pub levels_are_recorded : LevelsAreRecorded objects faulty
  levels_are_recorded root recorder answer walk ne names =
      ap (λ r. r.records) (tracked_run fresh_recorder walk.calls recorder refl walk.run)
      ∙ fresh_level (trees_of objects) (LookUpFails objects faulty) root walk.script (memory_left level_answer refl walk.answered ne) names

  pub depth_is_recorded : DepthIsRecorded objects faulty
  depth_is_recorded root recorder answer walk ne names =
      ap (λ r. r.records) (tracked_run fresh_recorder walk.calls recorder refl walk.run)
      ∙ fresh_depth (trees_of objects) (LookUpFails objects faulty) root walk.script (memory_left depth_answer refl walk.answered ne) names

  depth_order : (root : ObjectId) {calls : List Call} {visits : List Visit} {end : Ending} → IsDepthScript (trees_of objects) (LookUpFails objects faulty) root calls visits end → IsUnfailed end → IsPreorder (entries_at (trees_of objects)) (known_root root) (entries_at (trees_of objects) root) visits (is_broken end)
  depth_order root (script.found {visits = visits} {end = end} is walk) w = subst (λ l. IsPreorder (entries_at (trees_of objects)) (known_root root) (entries_in (items_or_none l)) visits (is_broken end)) (sym is) (preorder (trees_of objects) (LookUpFails objects faulty) walk w)
  depth_order root (script.not_found why) w = absurd w
  depth_order root script.no_memory w = absurd w

  pub both_record_the_same : BothRecordTheSame objects faulty
  both_record_the_same root items first second levels depth is names =
      let T = trees_of objects in
      let N = LookUpFails objects faulty in
      let level = level_walk T N unknown_root items levels.script in
      let deep = depth_walk T N root depth.script in
      let g = go_on levels.visits (called T N IsRecorderAnswer level (tracked_answers fresh_recorder levels.calls first levels.run)) in
      let h = go_on depth.visits (called T N IsRecorderAnswer deep (tracked_answers fresh_recorder depth.calls second depth.run)) in
      let ok = depth_ok depth.end depth.answered in
      let whole = whole_end depth.end ok (unbroken (entries_at T) (depth_order root depth.script ok) h) in
      let same : IsPermutation (map shown_by levels.visits) (map shown_by depth.visits) = both_show T N root items is (level_ok levels.end levels.answered) whole level deep g h in
      let named : HaveNames depth.visits = subst (λ (P : Type 0). P) (sym (shown_named depth.visits)) (recursion_from_All (λ x. IsName x.entry.name) (map shown_by depth.visits)
      (All-permutation (λ x. IsName x.entry.name) (map shown_by levels.visits) (map shown_by depth.visits) same (All-from_recursion (λ x. IsName x.entry.name) (map shown_by levels.visits) (subst (λ (P : Type 0). P) (shown_named levels.visits) names)))) in
      let moved : IsPermutation (map record_of levels.visits) (map record_of depth.visits) = rw (record_of_shown levels.visits, record_of_shown depth.visits) (IsPermutation-map record_shown (map shown_by levels.visits) (map shown_by depth.visits) same) in
      let a : first.held.records ≡ map record_of levels.visits = levels_are_recorded items first (Ok tt) levels (λ e. cc) names in
      let b : second.held.records ≡ map record_of depth.visits = depth_is_recorded root second (Ok tt) depth (λ e. cc) named in
      rw (a, b) moved

-- a walk hasn't failed where each fault that could end it is refuted
unless_failed : (end : Ending) → ((why : Error) → end ≡ Failed why → IsUnfailed end) → IsUnfailed end
unless_failed Broken h = tt
unless_failed Whole h = tt
unless_failed (Failed why) h = h why refl

module _ {V : Type 0} (objects : Objects) (faulty : ObjectId → Type 0) (steps : V → Call → V → Type 0) where
  pub levels_are_in_order : LevelsAreInOrder objects faulty steps
  levels_are_in_order root old new answer walk w = level_order (trees_of objects) (LookUpFails objects faulty) unknown_root root walk.script w

  pub depth_is_in_order : DepthIsInOrder objects faulty steps
  depth_is_in_order root old new answer walk w = depth_order objects faulty root walk.script w

  pub levels_begin_in_order : LevelsBeginInOrder objects faulty steps
  levels_begin_in_order root old new answer walk = level_beginning (trees_of objects) (LookUpFails objects faulty) unknown_root root walk.script

  depth_begins : (root : ObjectId) {calls : List Call} {visits : List Visit} {end : Ending} → IsDepthScript (trees_of objects) (LookUpFails objects faulty) root calls visits end → IsPreorderBeginning (entries_at (trees_of objects)) (known_root root) (entries_at (trees_of objects) root) visits
  depth_begins root (script.found {visits = visits} is walk) = subst (λ l. IsPreorderBeginning (entries_at (trees_of objects)) (known_root root) (entries_in (items_or_none l)) visits) (sym is) (preorder_beginning (trees_of objects) (LookUpFails objects faulty) walk)
  depth_begins root (script.not_found why) = order.ended
  depth_begins root script.no_memory = order.ended

  pub depth_begins_in_order : DepthBeginsInOrder objects faulty steps
  depth_begins_in_order root old new answer walk = depth_begins root walk.script

  -- the walks as walks over tasks
  abbrev levels_walk : {root : Items} {old new : V} {answer : Result (Unit {0}) Error} (walk : BreadthFirst objects faulty steps root old new answer)
      → TaskWalk (trees_of objects) (LookUpFails objects faulty) ByLevels (shows unknown_root root) walk.calls walk.visits walk.end
  levels_walk {root = root} walk = level_walk (trees_of objects) (LookUpFails objects faulty) unknown_root root walk.script

  abbrev walk_in_depth : {root : ObjectId} {old new : V} {answer : Result (Unit {0}) Error} (walk : DepthFirst objects faulty steps root old new answer)
      → TaskWalk (trees_of objects) (LookUpFails objects faulty) InDepth (Turn (known_root root) root ∷ shows (known_root root) (items_or_none (trees_of objects root))) walk.calls walk.visits walk.end
  walk_in_depth {root = root} walk = depth_walk (trees_of objects) (LookUpFails objects faulty) root walk.script

  pub met_levels_succeed : MetLevelsSucceed objects faulty steps
  met_levels_succeed root old new answer walk whole enter ne = unless_failed walk.end (λ why is.
      let none = none_breaks ByLevels (λ e. cc) (breaks_at ByLevels (trees_of objects) (LookUpFails objects faulty) (levels_walk walk)) in
      let tasks = shows_whole (trees_of objects) (LookUpFails objects faulty) (LookUpFailed objects faulty answer) unknown_root root (whole none) in
      met (trees_of objects) (LookUpFails objects faulty) (LookUpFailed objects faulty answer) (levels_walk walk) tasks (enter none)
      (memory_left level_answer refl walk.answered ne, λ i e f s. (f, walk.answered ∙ ap level_answer s)))

  pub met_depth_succeeds : MetDepthSucceeds objects faulty steps
  met_depth_succeeds root old new answer walk whole enter ne = unless_failed walk.end (λ why is.
      let none = none_breaks InDepth (λ e. cc) (breaks_at InDepth (trees_of objects) (LookUpFails objects faulty) (walk_in_depth walk)) in
      let tasks = turn_whole (trees_of objects) (LookUpFails objects faulty) (LookUpFailed objects faulty answer) (known_root root) root (whole none) in
      met (trees_of objects) (LookUpFails objects faulty) (LookUpFailed objects faulty answer) (walk_in_depth walk) tasks (enter none)
      (memory_left depth_answer refl walk.answered ne, λ i e f s. (f, walk.answered ∙ ap depth_answer s)))

  pub sound_levels_succeed : SoundLevelsSucceed objects faulty steps
  sound_levels_succeed root old new answer walk into goes w sound ne =
      met_levels_succeed root old new answer walk (λ none. w)
      (λ none. sound_level_visits (trees_of objects) (LookUpFails objects faulty) (LookUpFailed objects faulty answer) into root sound walk.script (run_only steps into old walk.calls new goes walk.run)) ne

  pub sound_depth_succeeds : SoundDepthSucceeds objects faulty steps
  sound_depth_succeeds root old new answer walk into goes sound ne =
      met_depth_succeeds root old new answer walk (λ none. sound.whole root (reach.start (0, omega arith, refl)))
      (λ none. sound_depth_visits (trees_of objects) (LookUpFails objects faulty) (LookUpFailed objects faulty answer) into root sound walk.script (run_only steps into old walk.calls new goes walk.run)) ne

  pub levels_end_at_break : LevelsEndAtBreak objects faulty steps
  levels_end_at_break root old new answer walk h =
      let ends = must_break ByLevels (breaks_at ByLevels (trees_of objects) (LookUpFails objects faulty) (levels_walk walk)) h in
      (ends.0, walk.answered ∙ ap level_answer ends.0, ends.1)

  pub depth_ends_at_break : DepthEndsAtBreak objects faulty steps
  depth_ends_at_break root old new answer walk h =
      let ends = must_break InDepth (breaks_at InDepth (trees_of objects) (LookUpFails objects faulty) (walk_in_depth walk)) h in
      (ends.0, walk.answered ∙ ap depth_answer ends.0, ends.1)

  pub levels_ok_without_break : OkWithoutBreak objects faulty steps
  levels_ok_without_break root old new answer walk w = ok_without_break ByLevels answer walk.end (breaks_at ByLevels (trees_of objects) (LookUpFails objects faulty) (levels_walk walk)) walk.answered w
