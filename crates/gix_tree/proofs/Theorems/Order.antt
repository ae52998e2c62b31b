-- The visits of a walk by levels are in level order.
use Rattle.std.proofs.Common.{◌≡◌, List, [], ◌∷◌, ◌++◌, length, map, Option, Some, Ok, Err, refl, sym, ap, ◌∙◌, subst, append-nil, slice_get, flat_map}
use Rattle.gix_tree.proofs.Common.{flat_map-append, ObjectId, TreeEntry, Action, Call, Items, Place, Visit, visit, inside, Leaves, Enters, outcome, Ending, IsUnfailed, Task, Turn, Show, Fault, shows, items_or_none, entries_in}
use Rattle.gix_tree.proofs.Common.{entries_at, IsLevelScript}
use Rattle.gix_hash.proofs.Lists.{past_end}
use Rattle.gix_object.specs.declared.find.existing_iter.Error.{Error as ExistingError}
use Rattle.gix_tree.specs.LevelOrder.{entries_of, entries_by, FollowsInLevels, IsLevelOrder, BeginsInLevels, IsLevelBeginning}
use Rattle.gix_tree.proofs.Levels.Met.{get_behind}
use Rattle.gix_tree.proofs.Levels.Script.{Passed, passed_more}
use Rattle.gix_tree.proofs.TaskWalk as walk
use Rattle.gix_tree.proofs.TaskWalk.{ByLevels, tasks_in, TaskWalk, level_walk}

-- the entries that tasks show
shown_of : Task → List (Place × TreeEntry)
shown_of (Turn p i) = []
shown_of (Show p e) = (p, e) ∷ []
shown_of (Fault why) = []

abbrev shown_in : List Task → List (Place × TreeEntry)
shown_in tasks = flat_map shown_of tasks

shown_in-shows : (p : Place) (items : Items) → shown_in (shows p items) ≡ map (λ x. (p, x)) (entries_in items)
unfolding shown_of
shown_in-shows p [] = refl
shown_in-shows p (Ok e ∷ items) = ap (λ l. (p, e) ∷ l) (shown_in-shows p items)
shown_in-shows p (Err why ∷ items) = refl

module _ (trees : ObjectId → Option Items) (fails : ObjectId → ExistingError → Type 0) (p : Place) (root : List TreeEntry) where
  -- of the entries that the visits up to now name, as many as were visited are passed by, and these are left
  abbrev Seen : List Visit → List (Place × TreeEntry) → Type 0
  Seen done left = Passed (entries_by (entries_at trees) p root done) (length done) left

  seen_next : (done : List Visit) {left : List (Place × TreeEntry)} (x : Place × TreeEntry) → Seen done (x ∷ left) → slice_get (entries_by (entries_at trees) p root done) (length done) ≡ Some x
  seen_next done x h = rw (h.is, ← h.many) (get_behind h.passed _)

  seen_more : (done : List Visit) (left : List (Place × TreeEntry)) (v : Visit) → Seen done ((v.place, v.entry) ∷ left) → Seen (done ++ v ∷ []) (left ++ entries_of (entries_at trees) v)
  seen_more done left v h = passed_more (entries_of (entries_at trees)) (map (λ x. (p, x)) root) done v (v.place, v.entry) left h

  seen_leaves : (done : List Visit) (left : List (Place × TreeEntry)) (q : Place) (e : TreeEntry) (a : Action) → outcome (visit q e a) ≡ Leaves → Seen done ((q, e) ∷ left)
      → Seen (done ++ visit q e a ∷ []) left
  seen_leaves done left q e a o h = rw (o, append-nil left) at (seen_more done left (visit q e a) h)

  seen_enters : (done : List Visit) (tasks : List Task) (q : Place) (e : TreeEntry) (a : Action) → outcome (visit q e a) ≡ Enters → Seen done ((q, e) ∷ shown_in tasks)
      → Seen (done ++ visit q e a ∷ []) (shown_in (tasks ++ tasks_in trees q e))
  unfolding shown_of
  seen_enters done tasks q e a o h =
      let named = flat_map-append shown_of tasks (tasks_in trees q e) ∙ ap (λ l. shown_in tasks ++ l) (shown_in-shows (inside q e) (items_or_none (trees e.id))) in
      subst (λ l. Seen (done ++ visit q e a ∷ []) l) (sym named) (rw o at (seen_more done (shown_in tasks) (visit q e a) h))

  level_follows : (done : List Visit) {tasks : List Task} {calls : List Call} {visits : List Visit} {end : Ending} → TaskWalk trees fails ByLevels tasks calls visits end → IsUnfailed end
      → Seen done (shown_in tasks)
      → FollowsInLevels (entries_at trees) p root done visits
  unfolding shown_of
  level_follows done walk.whole w h = rw (h.is, ← h.many, append-nil h.passed) (past_end h.passed)
  level_follows done (walk.stops why) w h = absurd w
  level_follows done (walk.turn rest) w h = level_follows done rest w h
  level_follows done (walk.leaves {p = q} {e = e} {a = a} o rest) w h = (seen_next done (q, e) h, rw o (level_follows (done ++ visit q e a ∷ []) rest w (seen_leaves done _ q e a o h)))
  level_follows done (walk.enters {p = q} {e = e} {a = a} {tasks = tasks} o rest) w h = (seen_next done (q, e) h, rw o (level_follows (done ++ visit q e a ∷ []) rest w (seen_enters done tasks q e a o h)))
  level_follows done (walk.breaks {p = q} {e = e} o) w h = (seen_next done (q, e) h, rw o refl)
  level_follows done (walk.cycles o) w h = absurd w

  level_begins : (done : List Visit) {tasks : List Task} {calls : List Call} {visits : List Visit} {end : Ending} → TaskWalk trees fails ByLevels tasks calls visits end → Seen done (shown_in tasks)
      → BeginsInLevels (entries_at trees) p root done visits
  unfolding shown_of
  level_begins done walk.whole h = tt
  level_begins done (walk.stops why) h = tt
  level_begins done (walk.turn rest) h = level_begins done rest h
  level_begins done (walk.leaves {p = q} {e = e} {a = a} o rest) h = (seen_next done (q, e) h, rw o (level_begins (done ++ visit q e a ∷ []) rest (seen_leaves done _ q e a o h)))
  level_begins done (walk.enters {p = q} {e = e} {a = a} {tasks = tasks} o rest) h = (seen_next done (q, e) h, rw o (level_begins (done ++ visit q e a ∷ []) rest (seen_enters done tasks q e a o h)))
  level_begins done (walk.breaks {p = q} {e = e} o) h = (seen_next done (q, e) h, rw o refl)
  level_begins done (walk.cycles {p = q} {e = e} o) h = (seen_next done (q, e) h, rw o refl)

module _ (trees : ObjectId → Option Items) (fails : ObjectId → ExistingError → Type 0) (p : Place) (root : Items) where
  none_seen : Seen trees fails p (entries_in root) [] (shown_in (shows p root))
  none_seen = record { passed = []; many = refl; is = append-nil _ ∙ sym (shown_in-shows p root) }

  pub level_order : {calls : List Call} {visits : List Visit} {end : Ending} → IsLevelScript trees fails p root calls visits end → IsUnfailed end
      → IsLevelOrder (entries_at trees) p (entries_in root) visits
  level_order walk w = level_follows trees fails p (entries_in root) [] (level_walk trees fails p root walk) w none_seen

  -- the visits of any walk by levels are a beginning of level order
  pub level_beginning : {calls : List Call} {visits : List Visit} {end : Ending} → IsLevelScript trees fails p root calls visits end → IsLevelBeginning (entries_at trees) p (entries_in root) visits
  level_beginning walk = level_begins trees fails p (entries_in root) [] (level_walk trees fails p root walk) none_seen
