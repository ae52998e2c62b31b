-- What holds of both walks of trees.
use Rattle.std.specs.Prelude.{◌≡◌, ◌≢◌, ◌↔◌, List, [], ◌∷◌, ◌++◌, map, Bool, true, false, ◌&&◌, Option, Some, Result, Ok, Err, IsPermutation, if◌then◌else◌}
use Rattle.std.specs.declared.ops.ControlFlow.TheVariants.{Continue, Break}
use Rattle.std.specs.List.{AllByRecursion}
use Rattle.gix_hash.specs.declared.ObjectId.{ObjectId}
use Rattle.gix_hash.specs.Id.{is_among}
use Rattle.gix_object.specs.Object.{Objects}
use Rattle.gix_object.specs.TreeItems.{TreeEntry, is_tree}
use Rattle.gix_object.specs.declared.find.existing_iter.Error.{Error as ExistingError}
use Rattle.gix_hash.specs.Reach.{Reaches}
use Rattle.gix_tree.specs.declared.breadthfirst.Error.{Error}
use Rattle.gix_tree.specs.declared.breadthfirst.Error.TheVariants as error
use Rattle.gix_tree.specs.Delegate.{Call, VisitTree, Run}
use Rattle.gix_tree.specs.Visits.{Items, Visit, Broken, IsUnfailed, is_broken}
use Rattle.gix_tree.specs.Paths.{HaveNames, unknown_root, known_root}
use Rattle.gix_tree.specs.LevelOrder.{IsLevelOrder, IsLevelBeginning}
use Rattle.gix_tree.specs.Preorder.{IsPreorder, IsPreorderBeginning}
use Rattle.gix_tree.specs.Script.{entries_in, entries_at, level_calls, depth_calls}
use Rattle.gix_tree.specs.Recorder.{record_of}
use Rattle.gix_tree.specs.Tracked.{Tracked, Tracks, fresh_recorder}
use Rattle.gix_tree.specs.Walk.{trees_of, LookUpFailed, BreadthFirst, DepthFirst}

-- no visit was answered `Break`
abbrev pub NoneBreaks : List Visit → Type 0
NoneBreaks visits = AllByRecursion (λ v. (b : Unit {0}) → v.answer ≢ Break b) visits

-- no fault is behind the entries
abbrev pub IsWhole : Items → Type 0
IsWhole [] = Unit {0}
IsWhole (Ok e ∷ items) = IsWhole items
IsWhole (Err why ∷ items) = ⊥

-- a visit of a tree that is answered `Continue(true)`
abbrev pub GoesIn : Visit → Type 0
GoesIn v = (is_tree v.entry.mode ≡ true) × (v.answer ≡ Continue true)

-- the ids of the trees among entries, of which `into` is true
abbrev pub subtrees : (TreeEntry → Bool) → List TreeEntry → List ObjectId
subtrees into [] = []
subtrees into (e ∷ es) = if into e && is_tree e.mode then e.id ∷ subtrees into es else subtrees into es

module _ (trees : ObjectId → Option Items) (fails : ObjectId → ExistingError → Type 0) where
  -- a tree that is stored and reads whole, and whose look-up doesn't fail
  pub record IsWholeTree (i : ObjectId) : Type 0 where
    pub stored : (items : Items) × (trees i ≡ Some items) × IsWhole items
    pub found : (why : ExistingError) → fails i why → ⊥

  -- the entry's tree is such a tree, and isn't one of the trees that hold the entry
  pub record EntersWhole (v : Visit) : Type 0 where
    pub whole : IsWholeTree v.entry.id
    pub free : is_among v.entry.id v.place.ids ≡ false

  -- each tree that these visits go into is such a tree, and no tree on the way down to it has its id
  abbrev pub AllEnterWhole : List Visit → Type 0
  AllEnterWhole visits = AllByRecursion (λ v. GoesIn v → EntersWhole v) visits

  -- the trees that a tree holds, of which `into` is true
  abbrev pub subtrees_of : (TreeEntry → Bool) → ObjectId → List ObjectId
  subtrees_of into i = subtrees into (entries_at trees i)

  -- All these trees, and the trees that they hold, and so on, as far as `into` is true of them, are stored and read whole. None
  -- holds itself.
  pub record AreSound (into : TreeEntry → Bool) (starts : List ObjectId) : Type 0 where
    pub whole : (i : ObjectId) → Reaches (subtrees_of into) starts i → IsWholeTree i
    pub free : (i : ObjectId) → Reaches (subtrees_of into) starts i → Reaches (subtrees_of into) (subtrees_of into i) i → ⊥

-- The last visit alone was answered `Break`, and its calls, as `calls_of` says, are the last that were made.
pub record EndsAtBreak (calls_of : Visit → List Call) (calls : List Call) (visits : List Visit) : Type 0 where
  pub before : List Call
  pub earlier : List Visit
  pub last : Visit
  pub calls_are : calls ≡ before ++ calls_of last
  pub visits_are : visits ≡ earlier ++ last ∷ []
  pub breaks : (b : Unit {0}) × (last.answer ≡ Break b)
  pub others : NoneBreaks earlier

-- whatever calls a delegate has had, it answers `Continue(true)` only at trees of which `into` is true
abbrev pub GoesOnlyInto : {V : Type 0} → (V → Call → V → Type 0) → V → (TreeEntry → Bool) → Type 0
GoesOnlyInto {V} steps old into = (calls : List Call) (mid new : V) (e : TreeEntry) → Run steps old calls mid
    → steps mid (VisitTree e (Continue true)) new → into e ≡ true

module _ (objects : Objects) (faulty : ObjectId → Type 0) where
  -- A fresh recorder holds one record for each visit of a walk by levels, with its path, in the order of the visits.
  abbrev pub LevelsAreRecorded : Type 0
  LevelsAreRecorded =
      (root : Items) (recorder : Tracked) (answer : Result (Unit {0}) Error)
      (walk : BreadthFirst objects faulty Tracks root fresh_recorder recorder answer) →
      answer ≢ Err error.Memory → HaveNames walk.visits → recorder.held.records ≡ map record_of walk.visits

  -- The same of a walk in depth.
  abbrev pub DepthIsRecorded : Type 0
  DepthIsRecorded =
      (root : ObjectId) (recorder : Tracked) (answer : Result (Unit {0}) Error)
      (walk : DepthFirst objects faulty Tracks root fresh_recorder recorder answer) →
      answer ≢ Err error.Memory → HaveNames walk.visits → recorder.held.records ≡ map record_of walk.visits

  -- Both walks over one tree, where both come to their end, record the same entries with the same paths, as often.
  abbrev pub BothRecordTheSame : Type 0
  BothRecordTheSame =
      (root : ObjectId) (items : Items) (first second : Tracked)
      (levels : BreadthFirst objects faulty Tracks items fresh_recorder first (Ok tt)) →
      DepthFirst objects faulty Tracks root fresh_recorder second (Ok tt) →
      trees_of objects root ≡ Some items → HaveNames levels.visits → IsPermutation first.held.records second.held.records

module _ {V : Type 0} (objects : Objects) (faulty : ObjectId → Type 0) (steps : V → Call → V → Type 0) where
  -- The visits of a walk by levels that ends with `Ok` or `Cancelled` are in level order.
  abbrev pub LevelsAreInOrder : Type 0
  LevelsAreInOrder =
      (root : Items) (old new : V) (answer : Result (Unit {0}) Error) (walk : BreadthFirst objects faulty steps root old new answer) →
      IsUnfailed walk.end → IsLevelOrder (entries_at (trees_of objects)) unknown_root (entries_in root) walk.visits

  -- The visits of a walk in depth that ends with `Ok` are in preorder.
  abbrev pub DepthIsInOrder : Type 0
  DepthIsInOrder =
      (root : ObjectId) (old new : V) (answer : Result (Unit {0}) Error) (walk : DepthFirst objects faulty steps root old new answer) →
      IsUnfailed walk.end → IsPreorder (entries_at (trees_of objects)) (known_root root) (entries_at (trees_of objects) root) walk.visits (is_broken walk.end)

  -- Whatever a walk by levels answers, its visits are a beginning of level order.
  abbrev pub LevelsBeginInOrder : Type 0
  LevelsBeginInOrder =
      (root : Items) (old new : V) (answer : Result (Unit {0}) Error) (walk : BreadthFirst objects faulty steps root old new answer) →
      IsLevelBeginning (entries_at (trees_of objects)) unknown_root (entries_in root) walk.visits

  -- Whatever a walk in depth answers, its visits are a beginning of preorder.
  abbrev pub DepthBeginsInOrder : Type 0
  DepthBeginsInOrder =
      (root : ObjectId) (old new : V) (answer : Result (Unit {0}) Error) (walk : DepthFirst objects faulty steps root old new answer) →
      IsPreorderBeginning (entries_at (trees_of objects)) (known_root root) (entries_at (trees_of objects) root) walk.visits

  -- A walk by levels fails only for memory, where what is read of the root is whole, each tree that its visits go into is stored
  -- and reads whole, and no tree on the way down to such a tree has its id. A look-up of such a tree may fail, where the walk
  -- doesn't answer that it did. Of a walk that a `Break` ends nothing is asked.
  abbrev pub MetLevelsSucceed : Type 0
  MetLevelsSucceed =
      (root : Items) (old new : V) (answer : Result (Unit {0}) Error) (walk : BreadthFirst objects faulty steps root old new answer) →
      (NoneBreaks walk.visits → IsWhole root) → (NoneBreaks walk.visits
      → AllEnterWhole (trees_of objects) (LookUpFailed objects faulty answer) walk.visits) → answer ≢ Err error.Memory → IsUnfailed walk.end

  -- The same of a walk in depth.
  abbrev pub MetDepthSucceeds : Type 0
  MetDepthSucceeds =
      (root : ObjectId) (old new : V) (answer : Result (Unit {0}) Error) (walk : DepthFirst objects faulty steps root old new answer) →
      (NoneBreaks walk.visits → IsWholeTree (trees_of objects) (LookUpFailed objects faulty answer) root)
      → (NoneBreaks walk.visits → AllEnterWhole (trees_of objects) (LookUpFailed objects faulty answer) walk.visits) → answer ≢ Err error.Memory
      → IsUnfailed walk.end

  -- The same by premises on the delegate and the store, and on the answer only where look-ups may fail: a walk by levels fails
  -- only for memory, where the trees that the delegate may go into are stored, read whole and don't hold themselves. What it
  -- leaves out may be missing or broken, or hold itself. Of a delegate that may go into each tree, `into` is true of all entries.
  abbrev pub SoundLevelsSucceed : Type 0
  SoundLevelsSucceed =
      (root : Items) (old new : V) (answer : Result (Unit {0}) Error) (walk : BreadthFirst objects faulty steps root old new answer)
      (into : TreeEntry → Bool) → GoesOnlyInto steps old into → IsWhole root
      → AreSound (trees_of objects) (LookUpFailed objects faulty answer) into (subtrees into (entries_in root)) → answer ≢ Err error.Memory
      → IsUnfailed walk.end

  -- The same of a walk in depth.
  abbrev pub SoundDepthSucceeds : Type 0
  SoundDepthSucceeds =
      (root : ObjectId) (old new : V) (answer : Result (Unit {0}) Error) (walk : DepthFirst objects faulty steps root old new answer)
      (into : TreeEntry → Bool) → GoesOnlyInto steps old into → AreSound (trees_of objects) (LookUpFailed objects faulty answer) into (root ∷ [])
      → answer ≢ Err error.Memory → IsUnfailed walk.end

  -- A walk by levels in which a visit was answered `Break` ended there: its calls are the calls up to that visit, and the answer
  -- is `Cancelled`.
  abbrev pub LevelsEndAtBreak : Type 0
  LevelsEndAtBreak =
      (root : Items) (old new : V) (answer : Result (Unit {0}) Error) (walk : BreadthFirst objects faulty steps root old new answer) →
      (NoneBreaks walk.visits → ⊥) → (walk.end ≡ Broken) × (answer ≡ Err error.Cancelled) × EndsAtBreak level_calls walk.calls walk.visits

  -- The same of a walk in depth, whose answer is `Ok`.
  abbrev pub DepthEndsAtBreak : Type 0
  DepthEndsAtBreak =
      (root : ObjectId) (old new : V) (answer : Result (Unit {0}) Error) (walk : DepthFirst objects faulty steps root old new answer) →
      (NoneBreaks walk.visits → ⊥) → (walk.end ≡ Broken) × (answer ≡ Ok tt) × EndsAtBreak depth_calls walk.calls walk.visits

  -- Of walks that don't fail, one by levels answers `Ok` where no visit was answered `Break`, and else `Cancelled`.
  abbrev pub OkWithoutBreak : Type 0
  OkWithoutBreak =
      (root : Items) (old new : V) (answer : Result (Unit {0}) Error) (walk : BreadthFirst objects faulty steps root old new answer) →
      IsUnfailed walk.end → ((answer ≡ Ok tt) ↔ NoneBreaks walk.visits) × ((answer ≡ Err error.Cancelled) ↔ (NoneBreaks walk.visits → ⊥))
