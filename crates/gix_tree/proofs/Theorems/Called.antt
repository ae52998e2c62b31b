-- The call of each visit is one of the calls that were made.
use Rattle.std.proofs.Common.{List, Option}
use Rattle.gix_tree.proofs.Common.{AllByRecursion, ObjectId, Call, Items, Visit, visit, visit_call, Ending, Task, IsDepthScript}
use Rattle.gix_object.specs.declared.find.existing_iter.Error.{Error as ExistingError}
use Rattle.gix_tree.proofs.All.{all_right}
use Rattle.gix_tree.proofs.TaskWalk as walk
use Rattle.gix_tree.proofs.TaskWalk.{Manner, calls_behind, TaskWalk, depth_walk}

module _ (trees : ObjectId → Option Items) (fails : ObjectId → ExistingError → Type 0) (P : Call → Type 0) where
  -- what is so of each call is so of the visits' calls
  abbrev pub AreCalled : List Visit → Type 0
  AreCalled visits = AllByRecursion (λ v. P (visit_call v)) visits

  pub called : {m : Manner} {tasks : List Task} {calls : List Call} {visits : List Visit} {end : Ending} → TaskWalk trees fails m tasks calls visits end → AllByRecursion P calls → AreCalled visits
  called walk.whole h = tt
  called (walk.stops why) h = tt
  called (walk.turn rest) h = called rest h.1
  called {m} (walk.leaves {p = p} {e = e} {a = a} o rest) h = (h.1.0, called rest (all_right P (calls_behind m (visit p e a)) _ h.1.1))
  called {m} (walk.enters {p = p} {e = e} {a = a} o rest) h = (h.1.0, called rest (all_right P (calls_behind m (visit p e a)) _ h.1.1))
  called (walk.breaks o) h = (h.1.0, tt)
  called (walk.cycles o) h = (h.1.0, tt)

  pub root_called : {root : ObjectId} {calls : List Call} {visits : List Visit} {end : Ending} → IsDepthScript trees fails root calls visits end → AllByRecursion P calls → AreCalled visits
  root_called {root} walk h = called (depth_walk trees fails root walk) h
