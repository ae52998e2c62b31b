-- The walk by levels from a queue on is the walk by its steps.
use Rattle.std.proofs.Common.{◌≡◌, ℕ, List, [], ◌∷◌, ◌++◌, length, Option, Some, refl, sym, ap, ◌∙◌, arith, append_assoc, length-append, append-nil, slice_get, flat_map}
use Rattle.gix_tree.proofs.Common.{flat_map-append, ObjectId, Call, Items, Place, Visit, Ending, Task, shows, Step, one_step_more, tasks_of, next_of_steps, LevelScript, IsLevelScript, whole, leaves, enters, breaks, cycles, turn}
use Rattle.gix_tree.proofs.Common.{not_found, fault, no_memory_in_turn, no_memory_for_descent, refused}
use Rattle.gix_object.specs.declared.find.existing_iter.Error.{Error as ExistingError}
use Rattle.gix_tree.proofs.Levels.Queue.{first_task, tasks_after, LevelFrom}

pub first_behind : (passed tasks : List Task) → slice_get (passed ++ tasks) (length passed) ≡ first_task tasks
first_behind [] [] = refl
first_behind [] (t ∷ ts) = refl
first_behind (t ∷ passed) tasks = first_behind passed tasks

-- of what was named, what was passed by and what is left
pub record Passed {X : Type 0} (all : List X) (n : ℕ) (left : List X) : Type 0 where
  pub passed : List X
  pub many : length passed ≡ n
  pub is : all ≡ passed ++ left

next_passed : {all left : List Task} {n : ℕ} → Passed all n left → slice_get all n ≡ first_task left
next_passed {left = left} h = rw (h.is, ← h.many) (first_behind h.passed left)

shift : {X : Type 0} (root named passed left more : List X) (x : X) → root ++ named ≡ passed ++ x ∷ left → root ++ (named ++ (more ++ [])) ≡ (passed ++ x ∷ []) ++ (left ++ more)
shift root named passed left more x e = simp (append_assoc, append-nil) (simp append_assoc at (ap (λ l. l ++ more) e))

-- one more step, which passes by one and names more
pub passed_more : {X Y : Type 0} (named : Y → List X) (root : List X) (done : List Y) (step : Y) (x : X) (left : List X) → Passed (root ++ flat_map named done) (length done) (x ∷ left)
    → Passed (root ++ flat_map named (done ++ step ∷ [])) (length (done ++ step ∷ [])) (left ++ named step)
passed_more named root done step x left h = record {
  passed = h.passed ++ x ∷ [];
  many = omega (arith, length-append h.passed (x ∷ []), length-append done (step ∷ []), h.many);
  is = rw (flat_map-append named done (step ∷ [])) (shift root _ h.passed left (named step) x h.is);
}

module _ (trees : ObjectId → Option Items) where
  more_passed : (root left : List Task) (done : List Step) (t : Task) (step : Step) → first_task left ≡ Some t → Passed (root ++ flat_map (tasks_of trees) done) (length done) left → Passed (root ++ flat_map (tasks_of trees) (one_step_more done step)) (length (one_step_more done step)) (tasks_after trees left step)
  more_passed root [] done t step e h = cc
  more_passed root (u ∷ left) done t step e h = passed_more (tasks_of trees) root done step u left h

-- two states that say alike what is to be done next, now and after each step, make the same walk
module _ (trees : ObjectId → Option Items) (fails : ObjectId → ExistingError → Type 0) {S U : Type 0} (next : S → Option Task) (after : S → Step → S) (next2 : U → Option Task) (after2 : U → Step → U)
    (R : S → U → Type 0) (same : (s : S) (u : U) → R s u → next2 u ≡ next s) (stays : (s : S) (u : U) (t : Task) (step : Step) → R s u → next s ≡ Some t → R (after s step) (after2 u step)) where
  same_walk : {s : S} {calls : List Call} {visits : List Visit} {end : Ending} (u : U) → R s u → LevelScript trees fails next after s calls visits end → LevelScript trees fails next2 after2 u calls visits end
  same_walk u r (whole e) = whole (same _ u r ∙ e)
  same_walk u r (leaves e o rest) = leaves (same _ u r ∙ e) o (same_walk _ (stays _ u _ _ r e) rest)
  same_walk u r (enters e o rest) = enters (same _ u r ∙ e) o (same_walk _ (stays _ u _ _ r e) rest)
  same_walk u r (breaks e o) = breaks (same _ u r ∙ e) o
  same_walk u r (cycles e o) = cycles (same _ u r ∙ e) o
  same_walk u r (turn e is rest) = turn (same _ u r ∙ e) is (same_walk _ (stays _ u _ _ r e) rest)
  same_walk u r (not_found e f) = not_found (same _ u r ∙ e) f
  same_walk u r (fault e) = fault (same _ u r ∙ e)
  same_walk u r (no_memory_in_turn e) = no_memory_in_turn (same _ u r ∙ e)
  same_walk u r (no_memory_for_descent a e o) = no_memory_for_descent a (same _ u r ∙ e) o
  same_walk u r (refused a e m) = refused a (same _ u r ∙ e) m

module _ (trees : ObjectId → Option Items) (fails : ObjectId → ExistingError → Type 0) where
  -- the steps that were made leave this queue
  abbrev Leaves_queue : List Task → List Step → List Task → Type 0
  Leaves_queue root done left = Passed (root ++ flat_map (tasks_of trees) done) (length done) left

  root_queue : (root : List Task) → Leaves_queue root [] root
  root_queue root = record { passed = []; many = refl; is = append-nil root }

  -- a walk from the queue of a root's tasks is the walk by levels
  pub level_script : (p : Place) (root : Items) {calls : List Call} {visits : List Visit} {end : Ending} → LevelFrom trees fails (shows p root) calls visits end → IsLevelScript trees fails p root calls visits end
  level_script p root walk = same_walk trees fails first_task (tasks_after trees) (next_of_steps trees (shows p root)) one_step_more
      (λ left done. Leaves_queue (shows p root) done left)
      (λ left done h. next_passed h)
      (λ left done t step h e. more_passed trees (shows p root) left done t step e h)
      [] (root_queue (shows p root)) walk

  pub level_queue : (p : Place) (root : Items) {calls : List Call} {visits : List Visit} {end : Ending} → IsLevelScript trees fails p root calls visits end → LevelFrom trees fails (shows p root) calls visits end
  level_queue p root walk = same_walk trees fails (next_of_steps trees (shows p root)) one_step_more first_task (tasks_after trees)
      (λ done left. Leaves_queue (shows p root) done left)
      (λ done left h. sym (next_passed h))
      (λ done left t step h e. more_passed trees (shows p root) left done t step (sym (next_passed h) ∙ e) h)
      (shows p root) (root_queue (shows p root)) walk
