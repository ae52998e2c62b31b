-- Where each tree that the visits go into reads whole and doesn't hold itself, a walk fails only for memory.
use Rattle.std.proofs.Common.{◌≡◌, ◌≢◌, List, [], ◌∷◌, Option, Ok, Err, refl, sym, subst}
use Rattle.gix_tree.proofs.Common.{AllByRecursion, ObjectId, is_tree, Call, Items, Place, Visit, inside, Enters, Cycles, Ending, Failed, IsUnfailed, Task, Turn, Show, Fault, shows, items_or_none, IsWhole, IsWholeTree, AllEnterWhole}
use Rattle.gix_object.specs.declared.find.existing_iter.Error.{Error as ExistingError}
use Rattle.gix_tree.specs.declared.breadthfirst.Error.TheVariants as error
use Rattle.gix_tree.proofs.Outcomes.{says}
use Rattle.gix_tree.proofs.TaskWalk as walk
use Rattle.gix_tree.proofs.TaskWalk.{Manner, TaskWalk, all_with}

module _ (trees : ObjectId → Option Items) (fails misses : ObjectId → ExistingError → Type 0) where
  -- memory didn't fail, and the look-up that did is one of those
  abbrev pub IsMissing : Ending → Type 0
  IsMissing end = (end ≢ Failed error.Memory) × ((i : ObjectId) (why : ExistingError) → fails i why → end ≡ Failed (error.Find why) → misses i why)

  -- no fault is to come, and the trees whose turn is to come read whole
  abbrev pub IsWholeTask : Task → Type 0
  IsWholeTask (Turn p i) = IsWholeTree trees misses i
  IsWholeTask (Show p e) = Unit {0}
  IsWholeTask (Fault why) = ⊥

  pub shows_whole : (p : Place) (items : Items) → IsWhole items → AllByRecursion IsWholeTask (shows p items)
  shows_whole p [] w = tt
  shows_whole p (Ok e ∷ items) w = (tt, shows_whole p items w)
  shows_whole p (Err why ∷ items) w = absurd w

  pub turn_whole : (p : Place) (i : ObjectId) → IsWholeTree trees misses i → AllByRecursion IsWholeTask (Turn p i ∷ shows p (items_or_none (trees i)))
  turn_whole p i h = (h, shows_whole p (items_or_none (trees i)) (subst (λ l. IsWhole (items_or_none l)) (sym h.stored.1) h.stored.2))

  pub met : {m : Manner} {tasks : List Task} {calls : List Call} {visits : List Visit} {end : Ending} → TaskWalk trees fails m tasks calls visits end → AllByRecursion IsWholeTask tasks
      → AllEnterWhole trees misses visits → IsMissing end → IsUnfailed end
  met walk.whole w h ne = tt
  met (walk.stops walk.fault) w h ne = absurd w.0
  met (walk.stops (walk.not_found {i = i} {why = why} failed)) w h ne = absurd (w.0.found why (ne.1 i why failed refl))
  met (walk.stops walk.no_memory) w h ne = absurd (ne.0 refl)
  met (walk.turn rest) w h ne = met rest w.1 h ne
  met (walk.leaves o rest) w h ne = met rest w.1 h.1 ne
  met {m} (walk.enters {p = p} {e = e} {a = a} {tasks = tasks} o rest) w h ne =
      let t = (h.0 ((says (is_tree e.mode) _ a Enters o).0)).whole in
      met rest (all_with trees IsWholeTask m p e tasks w.1 (turn_whole (inside p e) e.id t) t) h.1 ne
  met (walk.breaks o) w h ne = tt
  met (walk.cycles {p = p} {e = e} {a = a} o) w h ne =
      let free = (h.0 ((says (is_tree e.mode) _ a Cycles o).0)).free in
      let known = (says (is_tree e.mode) _ a Cycles o).1 in
      cc
