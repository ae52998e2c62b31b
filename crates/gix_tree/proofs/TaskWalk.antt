-- Both walks as one walk over a list of tasks. By levels the tasks of a tree that is gone into come behind all others, and in
-- depth before them.
use Rattle.std.proofs.Common.{◌≡◌, ◌≢◌, List, [], ◌∷◌, ◌++◌, Option, Some, refl, sym, ap, ◌∙◌, subst, append_assoc, append-nil}
use Rattle.gix_tree.proofs.Common.{AllByRecursion, ObjectId, TreeEntry, is_tree, Error, Action, Call, PushPath, PopPath, PopBack, PopFront, Items, Place, Visit, visit, inside, Leaves, Enters, Cycles, Breaks, outcome, visit_call, Ending}
use Rattle.gix_tree.proofs.Common.{Whole, Broken, Failed, Task, Turn, Show, Fault, shows, known_root, items_or_none, level_calls_behind, depth_calls, depth_calls_behind, IsLevelScript, DepthScript, IsDepthScript}
use Rattle.gix_object.specs.declared.decode.Error.{Error as DecodeError}
use Rattle.gix_object.specs.declared.find.existing_iter.Error.{Error as ExistingError}
use Rattle.gix_tree.specs.declared.breadthfirst.Error.TheVariants as error
use Rattle.gix_tree.specs.Script as script
use Rattle.gix_tree.proofs.All.{all_both}
use Rattle.gix_tree.proofs.Levels.Queue.{first_task, other_tasks, LevelFrom, split_front, no_front}
use Rattle.gix_tree.proofs.Levels.Script.{level_queue}

pub data Manner : Type 0 where
  ByLevels : Manner
  InDepth : Manner

abbrev pub calls_behind : Manner → Visit → List Call
calls_behind ByLevels v = level_calls_behind v.entry.name (outcome v)
calls_behind InDepth v = depth_calls_behind v.entry.name (is_tree v.entry.mode) (outcome v)

abbrev pub calls_by : Manner → Visit → List Call
calls_by m v = PushPath v.entry.name ∷ visit_call v ∷ calls_behind m v

-- the call before the entries of a tree
abbrev pub pop_by : Manner → Call
pop_by ByLevels = PopFront
pop_by InDepth = PopBack

-- the calls where a tree isn't found
abbrev pub lost_by : Manner → List Call
lost_by ByLevels = PopFront ∷ []
lost_by InDepth = []

module _ (trees : ObjectId → Option Items) where
  abbrev pub tasks_in : Place → TreeEntry → List Task
  tasks_in p e = Turn (inside p e) e.id ∷ shows (inside p e) (items_or_none (trees e.id))

  -- In depth the walk comes back behind a tree: the place that holds the tree's entry has one more turn.
  abbrev pub tasks_with : Manner → Place → TreeEntry → List Task → List Task
  tasks_with ByLevels p e tasks = tasks ++ tasks_in p e
  tasks_with InDepth p e tasks = tasks_in p e ++ Turn p e.id ∷ tasks

  pub all_with : (P : Task → Type 0) (m : Manner) (p : Place) (e : TreeEntry) (tasks : List Task) → AllByRecursion P tasks → AllByRecursion P (tasks_in p e) → P (Turn p e.id)
      → AllByRecursion P (tasks_with m p e tasks)
  all_with P ByLevels p e tasks h g back = all_both P tasks (tasks_in p e) h g
  all_with P InDepth p e tasks h g back = all_both P (tasks_in p e) (Turn p e.id ∷ tasks) g (back, h)

module _ (trees : ObjectId → Option Items) (fails : ObjectId → ExistingError → Type 0) (m : Manner) where
  -- a task at which a walk fails, the calls that were made there, and why
  pub data Stops : Task → List Call → Error → Type 0 where
    fault : {why : DecodeError} → Stops (Fault why) [] (error.ObjectDecode why)
    not_found : {p : Place} {i : ObjectId} {why : ExistingError} → fails i why → Stops (Turn p i) (lost_by m) (error.Find why)
    no_memory : {task : Task} {calls : List Call} → Stops task calls error.Memory

  pub data TaskWalk : List Task → List Call → List Visit → Ending → Type 0 where
    whole : TaskWalk [] [] [] Whole
    stops : {task : Task} {tasks : List Task} {calls : List Call} {why : Error} → Stops task calls why → TaskWalk (task ∷ tasks) calls [] (Failed why)
    turn : {p : Place} {i : ObjectId} {tasks : List Task} {calls : List Call} {visits : List Visit} {end : Ending} → TaskWalk tasks calls visits end
        → TaskWalk (Turn p i ∷ tasks) (pop_by m ∷ calls) visits end
    leaves : {p : Place} {e : TreeEntry} {a : Action} {tasks : List Task} {calls : List Call} {visits : List Visit} {end : Ending} → outcome (visit p e a) ≡ Leaves
        → TaskWalk tasks calls visits end → TaskWalk (Show p e ∷ tasks) (calls_by m (visit p e a) ++ calls) (visit p e a ∷ visits) end
    enters : {p : Place} {e : TreeEntry} {a : Action} {tasks : List Task} {calls : List Call} {visits : List Visit} {end : Ending} → outcome (visit p e a) ≡ Enters
        → TaskWalk (tasks_with trees m p e tasks) calls visits end → TaskWalk (Show p e ∷ tasks) (calls_by m (visit p e a) ++ calls) (visit p e a ∷ visits) end
    breaks : {p : Place} {e : TreeEntry} {a : Action} {tasks : List Task} → outcome (visit p e a) ≡ Breaks
        → TaskWalk (Show p e ∷ tasks) (calls_by m (visit p e a)) (visit p e a ∷ []) Broken
    cycles : {p : Place} {e : TreeEntry} {a : Action} {tasks : List Task} → outcome (visit p e a) ≡ Cycles
        → TaskWalk (Show p e ∷ tasks) (calls_by m (visit p e a)) (visit p e a ∷ []) (Failed (error.Cycle e.id))

module _ (trees : ObjectId → Option Items) (fails : ObjectId → ExistingError → Type 0) where
  abbrev Levels : List Task → List Call → List Visit → Ending → Type 0
  Levels tasks calls visits end = TaskWalk trees fails ByLevels tasks calls visits end

  abbrev Depth : List Task → List Call → List Visit → Ending → Type 0
  Depth tasks calls visits end = TaskWalk trees fails InDepth tasks calls visits end

  at_front : {tasks : List Task} {calls : List Call} {visits : List Visit} {end : Ending} (t : Task) → first_task tasks ≡ Some t → Levels (t ∷ other_tasks tasks) calls visits end
      → Levels tasks calls visits end
  at_front {tasks} {calls} {visits} {end} t e walk = subst (λ l. Levels l calls visits end) (sym (split_front tasks t e)) walk

  level_tasks : {tasks : List Task} {calls : List Call} {visits : List Visit} {end : Ending} → LevelFrom trees fails tasks calls visits end → Levels tasks calls visits end
  level_tasks (script.whole {s = s} e) = subst (λ l. Levels l [] [] Whole) (sym (no_front s e)) whole
  level_tasks (script.leaves {s = s} {p = p} {e = e} is o rest) = at_front (Show p e) is (leaves o (rw (o, append-nil (other_tasks s)) at (level_tasks rest)))
  level_tasks (script.enters {s = s} {p = p} {e = e} is o rest) = at_front (Show p e) is (enters o (rw o at (level_tasks rest)))
  level_tasks (script.breaks {p = p} {e = e} is o) = at_front (Show p e) is (breaks o)
  level_tasks (script.cycles {p = p} {e = e} is o) = at_front (Show p e) is (cycles o)
  level_tasks (script.turn {s = s} {p = p} {i = i} is found rest) = at_front (Turn p i) is (turn (rw (append-nil (other_tasks s)) at (level_tasks rest)))
  level_tasks (script.not_found {p = p} {i = i} is failed) = at_front (Turn p i) is (stops (not_found failed))
  level_tasks (script.fault {why = why} is) = at_front (Fault why) is (stops fault)
  level_tasks (script.no_memory_in_turn {p = p} {i = i} is) = at_front (Turn p i) is (stops no_memory)
  level_tasks (script.no_memory_for_descent {p = p} {e = e} a is o) = at_front (Show p e) is (stops no_memory)
  level_tasks (script.refused {p = p} {e = e} a is made) = at_front (Show p e) is (stops no_memory)

  pub level_walk : (p : Place) (root : Items) {calls : List Call} {visits : List Visit} {end : Ending} → IsLevelScript trees fails p root calls visits end → Levels (shows p root) calls visits end
  level_walk p root walk = level_tasks (level_queue trees fails p root walk)

  -- what comes behind the walk of a tree: where it showed all, the other tasks, and else nothing
  data Behind (tasks : List Task) : Ending → List Call → List Visit → Ending → Type 0 where
    goes_on : {calls : List Call} {visits : List Visit} {end : Ending} → Depth tasks calls visits end → Behind tasks Whole calls visits end
    ended : {end : Ending} → end ≢ Whole → Behind tasks end [] [] end

  respelled : {tasks : List Task} {calls more : List Call} {visits others : List Visit} {end : Ending} → more ≡ calls → others ≡ visits → Depth tasks calls visits end → Depth tasks more others end
  respelled {tasks} {calls} {more} {visits} {others} {end} c v walk = subst (λ l. Depth tasks l others end) (sym c) (subst (λ l. Depth tasks calls l end) (sym v) walk)

  at_end : {tasks left : List Task} {calls more : List Call} {visits others : List Visit} {end last : Ending} → end ≢ Whole → Depth tasks calls visits end → Behind left end more others last
      → Depth tasks (calls ++ more) (visits ++ others) last
  at_end ne walk (goes_on rest) = absurd (ne refl)
  at_end {calls = calls} {visits = visits} ne walk (ended n) = respelled (append-nil calls) (append-nil visits) walk

  depth_tasks : {p : Place} {items : Items} {calls more : List Call} {visits others : List Visit} {end last : Ending} {tasks : List Task} → DepthScript trees fails p items calls visits end
      → Behind tasks end more others last
      → Depth (shows p items ++ tasks) (calls ++ more) (visits ++ others) last
  depth_tasks script.whole (goes_on rest) = rest
  depth_tasks script.whole (ended ne) = absurd (ne refl)
  depth_tasks {more = more} (script.leaves {p = p} {e = e} {a = a} {calls = calls} o rest) k = respelled (append_assoc (depth_calls (visit p e a)) calls more) refl (leaves o (depth_tasks rest k))
  depth_tasks {more = more} {others = others} {last = last} {tasks = tasks} (script.enters {p = p} {e = e} {a = a} {sub = sub} {items = items} {calls = calls} {more = next} {visits = visits} {others = seen} o is walk rest) k =
      let back : Depth (Turn p e.id ∷ (shows p items ++ tasks)) (PopBack ∷ (next ++ more)) (seen ++ others) last = turn (depth_tasks rest k) in
      let inner = subst (λ l. Depth (shows (inside p e) (items_or_none l) ++ Turn p e.id ∷ (shows p items ++ tasks)) (calls ++ PopBack ∷ (next ++ more)) (visits ++ (seen ++ others)) last) (sym is)
      (depth_tasks walk (goes_on back)) in
      respelled (append_assoc (depth_calls (visit p e a)) (PopBack ∷ (calls ++ PopBack ∷ next)) more ∙ ap (λ l. depth_calls (visit p e a) ++ PopBack ∷ l) (append_assoc calls (PopBack ∷ next) more))
      (ap (λ l. visit p e a ∷ l) (append_assoc visits seen others)) (enters o (turn inner))
  depth_tasks {tasks = tasks} (script.ends_inside {p = p} {e = e} {a = a} {items = items} {calls = calls} {visits = visits} {end = end} o is walk ne) k =
      let inner = subst (λ l. Depth (shows (inside p e) (items_or_none l) ++ Turn p e.id ∷ (shows p items ++ tasks)) (calls ++ []) (visits ++ []) end) (sym is) (depth_tasks walk (ended ne)) in
      at_end ne (enters o (turn (respelled (sym (append-nil calls)) (sym (append-nil visits)) inner))) k
  depth_tasks (script.not_found {p = p} {e = e} {a = a} o failed) k = at_end (λ w. cc) (respelled (sym (append-nil (depth_calls (visit p e a)))) refl (enters o (stops (not_found failed)))) k
  depth_tasks (script.breaks o) k = at_end (λ w. cc) (breaks o) k
  depth_tasks (script.cycles o) k = at_end (λ w. cc) (cycles o) k
  depth_tasks script.fault k = at_end (λ w. cc) (stops fault) k
  depth_tasks (script.no_memory_at_look_up {p = p} {e = e} {a = a} o) k = at_end (λ w. cc) (respelled (sym (append-nil (depth_calls (visit p e a)))) refl (enters o (stops no_memory))) k
  depth_tasks (script.no_memory_for_descent {p = p} {e = e} a o) k = at_end {calls = PushPath e.name ∷ visit_call (visit p e a) ∷ PopPath ∷ []} (λ w. cc) (stops no_memory) k
  depth_tasks (script.refused {made = made} a refused) k = at_end {calls = made} (λ w. cc) (stops no_memory) k

  -- what comes behind the walk of the root
  none_behind : (end : Ending) → Behind [] end [] [] end
  none_behind Whole = goes_on whole
  none_behind Broken = ended (λ w. cc)
  none_behind (Failed why) = ended (λ w. cc)

  pub tree_walk : (p : Place) {items : Items} {calls : List Call} {visits : List Visit} {end : Ending} → DepthScript trees fails p items calls visits end → Depth (shows p items) calls visits end
  tree_walk p {items} {calls} {visits} {end} walk = rw (append-nil (shows p items), append-nil calls, append-nil visits) at (depth_tasks walk (none_behind end))

  pub depth_walk : (root : ObjectId) {calls : List Call} {visits : List Visit} {end : Ending} → IsDepthScript trees fails root calls visits end
      → Depth (Turn (known_root root) root ∷ shows (known_root root) (items_or_none (trees root))) calls visits end
  depth_walk root (script.found {calls = calls} {visits = visits} {end = end} is walk) =
      turn (subst (λ l. Depth (shows (known_root root) (items_or_none l)) calls visits end) (sym is) (tree_walk (known_root root) walk))
  depth_walk root (script.not_found failed) = stops (not_found failed)
  depth_walk root script.no_memory = stops no_memory
