-- What a store says of trees, and what the walks of trees answer.
use Rattle.std.specs.Prelude.{◌≡◌, ℕ, List, Option, Some, None, Result, Ok, Err}
use Rattle.std.specs.FinMap.{get}
use Rattle.gix_hash.specs.declared.ObjectId.{ObjectId}
use Rattle.gix_object.specs.declared.Kind.{Kind}
use Rattle.gix_object.specs.declared.Kind.TheVariants as kind
use Rattle.gix_object.specs.declared.find.existing_iter.Error.{Error as ExistingError}
use Rattle.gix_hash.specs.Id.{kind_of}
use Rattle.gix_object.specs.Object.{Object, Objects}
use Rattle.gix_object.specs.TreeItems.{tree_items}
use Rattle.gix_tree.specs.declared.breadthfirst.Error.{Error}
use Rattle.gix_tree.specs.declared.breadthfirst.Error.TheVariants as error
use Rattle.gix_tree.specs.Delegate.{Call, Run}
use Rattle.gix_tree.specs.Visits.{Items, Visit, Ending, Whole, Broken, Failed}
use Rattle.gix_tree.specs.Paths.{unknown_root}
use Rattle.gix_tree.specs.Script.{IsLevelScript, IsDepthScript}
use Rattle.gix_object.specs.Find.{IsExistingFault}

abbrev pub items_of_kind : ObjectId → Kind → List ℕ → Option Items
items_of_kind i kind.Tree bytes = Some (tree_items (kind_of i) bytes)
items_of_kind i kind.Blob bytes = None
items_of_kind i kind.Commit bytes = None
items_of_kind i kind.Tag bytes = None

abbrev pub items_of_object : ObjectId → Option Object → Option Items
items_of_object i None = None
items_of_object i (Some object) = items_of_kind i object.kind object.bytes

-- what is read of the tree that is stored at an id
abbrev pub trees_of : Objects → ObjectId → Option Items
trees_of objects i = items_of_object i (get objects i)

-- which look-ups of a tree may fail, and how
abbrev pub LookUpFails : Objects → (ObjectId → Type 0) → ObjectId → ExistingError → Type 0
LookUpFails objects faulty i why = IsExistingFault objects faulty i kind.Tree why

-- which look-ups of a tree failed, as far as the answer of a walk shows, and how
abbrev pub LookUpFailed : Objects → (ObjectId → Type 0) → Result (Unit {0}) Error → ObjectId → ExistingError → Type 0
LookUpFailed objects faulty answer i why = LookUpFails objects faulty i why × (answer ≡ Err (error.Find why))

-- what a walk by levels answers
abbrev pub level_answer : Ending → Result (Unit {0}) Error
level_answer Whole = Ok tt
level_answer Broken = Err error.Cancelled
level_answer (Failed why) = Err why

-- what a walk in depth answers
abbrev pub depth_answer : Ending → Result (Unit {0}) Error
depth_answer Whole = Ok tt
depth_answer Broken = Ok tt
depth_answer (Failed why) = Err why

module _ {V : Type 0} (objects : Objects) (faulty : ObjectId → Type 0) (steps : V → Call → V → Type 0) where
  -- what `breadthfirst` makes of a delegate, over what is read of the root handed in
  pub record BreadthFirst (root : Items) (old new : V) (answer : Result (Unit {0}) Error) : Type 0 where
    pub calls : List Call
    pub visits : List Visit
    pub end : Ending
    pub script : IsLevelScript (trees_of objects) (LookUpFails objects faulty) unknown_root root calls visits end
    pub run : Run steps old calls new
    pub answered : answer ≡ level_answer end

  -- what `depthfirst` makes of a delegate, from the root's id
  pub record DepthFirst (root : ObjectId) (old new : V) (answer : Result (Unit {0}) Error) : Type 0 where
    pub calls : List Call
    pub visits : List Visit
    pub end : Ending
    pub script : IsDepthScript (trees_of objects) (LookUpFails objects faulty) root calls visits end
    pub run : Run steps old calls new
    pub answered : answer ≡ depth_answer end
