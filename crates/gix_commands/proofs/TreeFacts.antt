-- How walks through stored trees end.
use Rattle.std.proofs.Common.{◌≡◌, ◌≢◌, List, [], ◌∷◌, false, Result, Ok, Err, refl, subst}
use Rattle.gix_commands.proofs.Common.{ObjectId, Objects, Call, Run, DepthScript, IsDepthScript, whole, leaves, enters, ends_inside, breaks, cycles, fault, no_memory_at_look_up, no_memory_for_descent, found, Tracked, Tracks, fresh_recorder, entries_at, LookUpFails}
use Rattle.gix_commands.proofs.Common.{depth_answer, trees_of, Items, Place, Visit, Ending, Whole, Broken, Failed, IsUnfailed, is_broken, depth_ok, depth_is_in_order, go_on, fault_of_tree_walk, RecordsTree, never_faulty}
use Rattle.std.specs.List.{AllByRecursion}
use Rattle.gix_object.specs.declared.Kind.TheVariants as object
use Rattle.gix_tree.specs.declared.breadthfirst.Error.{Error}
use Rattle.gix_tree.specs.Paths.{known_root}
use Rattle.gix_tree.specs.Preorder.{IsPreorder}
use Rattle.gix_tree.specs.Recorder.{IsRecorderAnswer}
use Rattle.gix_tree.specs.Script.{not_found, refused, no_memory}
use Rattle.gix_tree.proofs.Theorems.Called.{root_called}
use Rattle.gix_tree.proofs.Theorems.SameRecords.{GoOn, unbroken}
use Rattle.gix_words.specs.declared.fault.Fault.TheVariants as run_fault
use Rattle.gix_commands.proofs.InternalFacts.{find_sound}

-- a recorder answers each call so
answers_of : (old : Tracked) (calls : List Call) (new : Tracked) → Run Tracks old calls new → AllByRecursion IsRecorderAnswer calls
answers_of old [] new h = tt
answers_of old (call ∷ calls) new h = (h.1.1.0, answers_of h.0 calls new h.2)

pub whole_end : (end : Ending) → IsUnfailed end → is_broken end ≡ false → end ≡ Whole
whole_end Whole w b = refl
whole_end Broken w b = cc
whole_end (Failed why) w b = absurd w

-- what a recorder is led through
module _ (objects : Objects) (tree : ObjectId) (recorder : Tracked) {calls : List Call} {visits : List Visit} {end : Ending}
    (script : IsDepthScript (trees_of objects) (LookUpFails objects (never_faulty objects)) tree calls visits end) (run : Run Tracks fresh_recorder calls recorder) where
  -- each visit goes on
  pub goes_on : GoOn visits
  goes_on = go_on visits (root_called (trees_of objects) (LookUpFails objects (never_faulty objects)) IsRecorderAnswer script (answers_of fresh_recorder calls recorder run))

  order : Ok tt ≡ depth_answer end → IsPreorder (entries_at (trees_of objects)) (known_root tree) (entries_at (trees_of objects) tree) visits (is_broken end)
  order well =
      let walk : RecordsTree objects tree recorder (Ok tt) = record { calls = calls; visits = visits; end = end; script = script; run = run; answered = well } in
      depth_is_in_order objects (never_faulty objects) Tracks tree fresh_recorder recorder (Ok tt) walk (depth_ok end well)

  -- a walk that answers Ok shows all
  pub ends_whole : Ok tt ≡ depth_answer end → end ≡ Whole
  ends_whole well = whole_end end (depth_ok end well) (unbroken (entries_at (trees_of objects)) (order well) goes_on)

  -- and in preorder
  pub in_preorder : Ok tt ≡ depth_answer end → IsPreorder (entries_at (trees_of objects)) (known_root tree) (entries_at (trees_of objects) tree) visits false
  in_preorder well = subst (IsPreorder (entries_at (trees_of objects)) (known_root tree) (entries_at (trees_of objects) tree) visits) (unbroken (entries_at (trees_of objects)) (order well) goes_on) (order well)

-- an ending that reports no failing store and no delegate that broke the walk off
abbrev IsSound : Ending → Type 0
IsSound Whole = Unit {0}
IsSound Broken = Unit {0}
IsSound (Failed why) = fault_of_tree_walk why ≢ run_fault.Internal

module _ (objects : Objects) where
  script_sound : {p : Place} {items : Items} {calls : List Call} {visits : List Visit} {end : Ending} → DepthScript (trees_of objects) (LookUpFails objects (never_faulty objects)) p items calls visits end → IsSound end
  script_sound whole = tt
  script_sound (leaves o s) = script_sound s
  script_sound (enters o t s more) = script_sound more
  script_sound (ends_inside o t s n) = script_sound s
  script_sound (not_found {e = e} {why = why} o f) = find_sound objects e.id object.Tree why f
  script_sound (breaks o) = tt
  script_sound (cycles o) = λ e. cc
  script_sound fault = λ e. cc
  script_sound (no_memory_at_look_up o) = λ e. cc
  script_sound (no_memory_for_descent a o) = λ e. cc
  script_sound (refused a r) = λ e. cc

  walk_sound : {tree : ObjectId} {calls : List Call} {visits : List Visit} {end : Ending} → IsDepthScript (trees_of objects) (LookUpFails objects (never_faulty objects)) tree calls visits end → IsSound end
  walk_sound (found t s) = script_sound s
  walk_sound {tree} (not_found {why = why} f) = find_sound objects tree object.Tree why f
  walk_sound no_memory = λ e. cc

  answer_sound : (end : Ending) (e : Error) → IsSound end → Err e ≡ depth_answer end → fault_of_tree_walk e ≢ run_fault.Internal
  answer_sound Whole e h same = λ _. cc
  answer_sound Broken e h same = λ _. cc
  answer_sound (Failed why) e h same = λ is. let one : e ≡ why = err_same same in h (subst (λ (x : Error). fault_of_tree_walk x ≡ run_fault.Internal) one is)
    where
      err_same : {e f : Error} → ◌≡◌ {A = Result (Unit {0}) Error} (Err e) (Err f) → e ≡ f
      err_same same = cc

  -- none ends by an internal fault
  pub tree_sound : {tree : ObjectId} {recorder : Tracked} {e : Error} → RecordsTree objects tree recorder (Err e) → fault_of_tree_walk e ≢ run_fault.Internal
  tree_sound {e = e} walk = answer_sound walk.end e (walk_sound walk.script) walk.answered
