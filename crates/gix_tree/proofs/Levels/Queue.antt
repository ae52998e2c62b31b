-- What is to be done in a walk by levels, as a queue: each step takes its task away at the front and adds others at the back.
use Rattle.std.proofs.Common.{◌≡◌, List, [], ◌∷◌, ◌++◌, Option, Some, None, refl}
use Rattle.gix_tree.proofs.Common.{ObjectId, Call, Items, Visit, Ending, Task, Step, tasks_of, LevelScript}
use Rattle.gix_object.specs.declared.find.existing_iter.Error.{Error as ExistingError}

abbrev pub first_task : List Task → Option Task
first_task [] = None
first_task (task ∷ tasks) = Some task

abbrev pub other_tasks : List Task → List Task
other_tasks [] = []
other_tasks (task ∷ tasks) = tasks

pub split_front : (tasks : List Task) (t : Task) → first_task tasks ≡ Some t → tasks ≡ t ∷ other_tasks tasks
split_front [] t e = cc
split_front (u ∷ tasks) t e = cc

pub no_front : (tasks : List Task) → first_task tasks ≡ None → tasks ≡ []
no_front [] e = refl
no_front (u ∷ tasks) e = cc

module _ (trees : ObjectId → Option Items) where
  -- what a step leaves of the queue
  abbrev pub tasks_after : List Task → Step → List Task
  tasks_after tasks step = other_tasks tasks ++ tasks_of trees step

module _ (trees : ObjectId → Option Items) (fails : ObjectId → ExistingError → Type 0) where
  -- the walk by levels, from a queue on
  abbrev pub LevelFrom : List Task → List Call → List Visit → Ending → Type 0
  LevelFrom tasks calls visits end = LevelScript trees fails first_task (tasks_after trees) tasks calls visits end
