-- The statements of the laws of topological walks, over any store and predicate.
use Rattle.std.specs.Prelude.{◌≡◌, ◌↔◌, ◌≤◌, ℤ, List, [], ◌∷◌, ◌++◌, Bool, true, Option, Some, None, Result, Ok, Err, All, Contains, filter, length, take}
use Rattle.std.specs.List.{AllZip}
use Rattle.std.specs.Iterator.{Drains, Yields}
use Rattle.gix_hash.specs.declared.ObjectId.{ObjectId}
use Rattle.gix_object.specs.Object.{Objects}
use Rattle.gix_commitgraph.specs.Rows.{GraphRow, row_of}
use Rattle.gix_revwalk.specs.declared.Info.{Info}
use Rattle.gix_revwalk.specs.declared.Parents.TheVariants as mode
use Rattle.gix_topo.specs.declared.Sorting.{Sorting}
use Rattle.gix_topo.specs.declared.Error.{Error}
use Rattle.gix_hash.specs.Reach.{Reaches}
use Rattle.gix_revwalk.specs.Agreeing.{IsAgreeing}
use Rattle.gix_revwalk.specs.Commits.{ReadsWhole, parents_of}
use Rattle.gix_revwalk.specs.ListsByTurn.{IsBeginningBy, IsListBy}
use Rattle.gix_revwalk.specs.Ids.{AreDistinct}
use Rattle.gix_revwalk.specs.Texts.{text_next}
use Rattle.gix_topo.specs.WalkSet.{IsInWalk, IsAcyclicIn, IsChild}
use Rattle.gix_topo.specs.DateOrder.{IsBestMade}
use Rattle.gix_topo.specs.TopoOrder.{IsLastMade}
use Rattle.gix_topo.specs.Walk.{TopoPlan, TopoWalk, walked_of, row_generation, IsMember, IsStarted, IsSound, IsLeft, IsFault, IsLate, IsCounting, IsKnown, Next, text_walked, IsTextMember}
use Rattle.gix_revwalk.specs.Infos.{given, given_ids}
use Rattle.gix_topo.specs.Laws.{IsNextTaken, IsNextByText, IsWholeRun, IsGiven, GivesInOrder, BeginsInOrder, GivesDifference, IsNoRefusal, answers_left, GivesTextOrder, BeginsTextOrder, GivesTextDifference}
use Rattle.gix_revwalk.specs.Asking.{AnswersBy, AsksAll}

-- There is a list of members of a walk in topological order, where each id names next some of the parents that its commit's text names in
-- a store. Members may be their own ancestors: the list holds what can become ready.
abbrev pub SomeTopoOrder : Type 0
SomeTopoOrder =
    (time : ObjectId → ℤ) (objects : Objects) (walked all : ObjectId → List ObjectId) (tips ends : List ObjectId)
    → ((c i : ObjectId) → Contains (walked c) i → Contains (text_next objects c) i)
    → ((c i : ObjectId) → Contains (all c) i → Contains (text_next objects c) i)
    → (ids : List ObjectId) × IsListBy (IsLastMade time walked (IsInWalk walked all tips ends) tips) ids

-- and one in date order, where the ends go on to each id that the walk goes on to
abbrev pub SomeDateOrder : Type 0
SomeDateOrder =
    (time : ObjectId → ℤ) (objects : Objects) (walked all : ObjectId → List ObjectId) (tips ends : List ObjectId)
    → ((c i : ObjectId) → Contains (walked c) i → Contains (all c) i)
    → ((c i : ObjectId) → Contains (all c) i → Contains (text_next objects c) i)
    → (ids : List ObjectId) × IsListBy (IsBestMade time walked (IsInWalk walked all tips ends) tips) ids

-- there is at most one list of the members of a walk in topological order
abbrev pub TopoOrderIsOne : Type 0
TopoOrderIsOne =
    (time : ObjectId → ℤ) (walked all : ObjectId → List ObjectId) (tips ends ids others : List ObjectId)
    → IsListBy (IsLastMade time walked (IsInWalk walked all tips ends) tips) ids
    → IsListBy (IsLastMade time walked (IsInWalk walked all tips ends) tips) others
    → ids ≡ others

-- and at most one in date order
abbrev pub DateOrderIsOne : Type 0
DateOrderIsOne =
    (time : ObjectId → ℤ) (walked all : ObjectId → List ObjectId) (tips ends ids others : List ObjectId)
    → IsListBy (IsBestMade time walked (IsInWalk walked all tips ends) tips) ids
    → IsListBy (IsBestMade time walked (IsInWalk walked all tips ends) tips) others
    → ids ≡ others

-- a beginning in topological order is the first ids of the whole list
abbrev pub TopoBeginningIsOne : Type 0
TopoBeginningIsOne =
    (time : ObjectId → ℤ) (walked all : ObjectId → List ObjectId) (tips ends ids whole : List ObjectId)
    → IsBeginningBy (IsLastMade time walked (IsInWalk walked all tips ends) tips) ids
    → IsListBy (IsLastMade time walked (IsInWalk walked all tips ends) tips) whole
    → ids ≡ take (length ids) whole

-- and so is one in date order
abbrev pub DateBeginningIsOne : Type 0
DateBeginningIsOne =
    (time : ObjectId → ℤ) (walked all : ObjectId → List ObjectId) (tips ends ids whole : List ObjectId)
    → IsBeginningBy (IsBestMade time walked (IsInWalk walked all tips ends) tips) ids
    → IsListBy (IsBestMade time walked (IsInWalk walked all tips ends) tips) whole
    → ids ≡ take (length ids) whole

module _ {F : Type 0} (objects : F → Objects) where
  -- commits that were taken in order
  abbrev pub TakesEachOnce : Type 0
  TakesEachOnce =
      (plan : TopoPlan F) (ids : List ObjectId)
      → IsListBy (IsNextTaken objects plan) ids
      → AreDistinct ids
      × ((i : ObjectId) → Contains ids i → IsMember objects plan i)
      × (IsAcyclicIn (walked_of objects plan) (IsMember objects plan) → (i : ObjectId) → IsMember objects plan i → Contains ids i)

  -- the first commits that are taken in order
  abbrev pub BeginsEachOnce : Type 0
  BeginsEachOnce =
      (plan : TopoPlan F) (ids : List ObjectId)
      → IsBeginningBy (IsNextTaken objects plan) ids
      → AreDistinct ids
      × ((i : ObjectId) → Contains ids i → IsMember objects plan i)
      × ((taken rest : List ObjectId) (child parent : ObjectId)
      → ids ≡ taken ++ parent ∷ rest
      → IsChild (walked_of objects plan) (IsMember objects plan) child parent
      → Contains taken child)

  -- every child comes before its parents
  abbrev pub TakesChildrenFirst : Type 0
  TakesChildrenFirst =
      (plan : TopoPlan F) (ids : List ObjectId)
      → IsListBy (IsNextTaken objects plan) ids
      → (taken rest : List ObjectId) (child parent : ObjectId)
      → ids ≡ taken ++ parent ∷ rest
      → Contains ids child
      → Contains (walked_of objects plan child) parent
      → Contains taken child

  -- commits that were taken in order by the texts: each once, members alone, all of these, and every child before its parents
  abbrev pub TakesEachByText : Type 0
  TakesEachByText =
      (plan : TopoPlan F) (ids : List ObjectId)
      → IsListBy (IsNextByText objects plan) ids
      → AreDistinct ids
      × ((i : ObjectId) → Contains ids i → IsTextMember objects plan i)
      × (IsAcyclicIn (text_walked objects plan) (IsTextMember objects plan) → (i : ObjectId) → IsTextMember objects plan i → Contains ids i)
      × ((taken rest : List ObjectId) (child parent : ObjectId)
      → ids ≡ taken ++ parent ∷ rest
      → Contains ids child
      → Contains (text_walked objects plan child) parent
      → Contains taken child)

module _ {F P : Type 0} (objects : F → Objects) (faulty : F → ObjectId → Type 0) (answers : P → ObjectId → Bool → P → Type 0) where
  -- a built walk that is drawn to its end
  abbrev pub RunsAreInOrder : Type 0
  RunsAreInOrder =
      (walk : TopoWalk F P) (accepts : ObjectId → Bool) (list : List (Result Info Error))
      → IsWholeRun objects faulty answers walk accepts list
      → GivesInOrder objects walk.plan accepts list

  -- a built walk that is drawn as far as one likes
  abbrev pub RunsBeginInOrder : Type 0
  RunsBeginInOrder =
      (walk new : TopoWalk F P) (accepts : ObjectId → Bool) (list : List (Result Info Error))
      → AnswersBy answers walk.predicate accepts
      → IsStarted objects faulty answers walk
      → IsSound objects faulty walk.plan
      → All IsNoRefusal list
      → Yields (Next objects faulty answers) walk list new
      → BeginsInOrder objects walk.plan accepts list

  -- a walk through all parents whose predicate accepts all, where all that is reached reads whole
  abbrev pub RunsGiveTheDifference : Type 0
  RunsGiveTheDifference =
      (walk : TopoWalk F P) (list : List (Result Info Error))
      → let store = objects walk.plan.store in
      AnswersBy answers walk.predicate (λ i. true)
      → IsStarted objects faulty answers walk
      → walk.plan.parents ≡ mode.All
      → IsAgreeing store walk.plan.rows
      → ((i : ObjectId) → Reaches (parents_of store) (walk.plan.tips ++ walk.plan.ends) i → ReadsWhole store i)
      → All IsNoRefusal list
      → Drains (Next objects faulty answers) walk list
      → GivesDifference store walk.plan.tips walk.plan.ends list

  -- two walks, each by rows of its own that agree
  abbrev pub RowsLeaveTheIds : Type 0
  RowsLeaveTheIds =
      (walk other : TopoWalk F P) (rows : List GraphRow) (accepts : ObjectId → Bool) (list longer : List (Result Info Error))
      → other.plan ≡ record walk.plan { rows = rows }
      → IsWholeRun objects faulty answers walk accepts list
      → IsWholeRun objects faulty answers other accepts longer
      → (ids : List ObjectId) × AllZip (IsGiven objects walk.plan) list (filter accepts ids) × AllZip (IsGiven objects other.plan) longer (filter accepts ids)

  -- two walks, each by rows of its own that agree: their answers are commits that differ in generations alone
  abbrev pub RowsChangeGenerationsAlone : Type 0
  RowsChangeGenerationsAlone =
      (walk other : TopoWalk F P) (rows : List GraphRow) (accepts : ObjectId → Bool) (list longer : List (Result Info Error))
      → other.plan ≡ record walk.plan { rows = rows }
      → IsWholeRun objects faulty answers walk accepts list
      → IsWholeRun objects faulty answers other accepts longer
      → (infos others : List Info) × (list ≡ given infos) × (longer ≡ given others)
      × AllZip (λ (a : Info) (b : Info). (a.id ≡ b.id) × (a.parent_ids.items ≡ b.parent_ids.items) × (a.commit_time ≡ b.commit_time)) infos others

  -- two walks, each by rows of its own that agree, and in an order of its own
  abbrev pub RowsLeaveTheSet : Type 0
  RowsLeaveTheSet =
      (walk other : TopoWalk F P) (rows : List GraphRow) (sorting : Sorting) (accepts : ObjectId → Bool) (list longer : List (Result Info Error))
      → other.plan ≡ record walk.plan { rows = rows; sorting = sorting }
      → IsWholeRun objects faulty answers walk accepts list
      → IsWholeRun objects faulty answers other accepts longer
      → (one : GivesInOrder objects walk.plan accepts list)
      × (two : GivesInOrder objects other.plan accepts longer)
      × ((i : ObjectId) → Contains one.ids i ↔ Contains two.ids i)

  -- an answer for each ready commit and each named id, at most
  abbrev pub Ends : Type 0
  Ends =
      (walk new : TopoWalk F P) (list : List (Result Info Error))
      → Yields (Next objects faulty answers) walk list new
      → length list ≤ answers_left objects walk

  -- the predicate's state is a run of its own steps over different commits
  abbrev pub AsksNeverTwice : Type 0
  AsksNeverTwice =
      (walk new : TopoWalk F P) (list : List (Result Info Error))
      → IsStarted objects faulty answers walk
      → Yields (Next objects faulty answers) walk list new
      → (ids : List ObjectId) × AsksAll answers walk.predicate ids new.predicate × AreDistinct ids

  -- whatever faults come, and wherever the caller stops
  abbrev pub GivesNeverTwice : Type 0
  GivesNeverTwice =
      (walk new : TopoWalk F P) (list : List (Result Info Error))
      → IsStarted objects faulty answers walk
      → Yields (Next objects faulty answers) walk list new
      → AreDistinct (given_ids list)

  -- a fault comes for its reason alone, and nothing follows it
  abbrev pub FailsForItsReason : Type 0
  FailsForItsReason =
      (walk new : TopoWalk F P) (e : Error)
      → Next objects faulty answers walk (Some (Err e)) new
      → IsFault objects faulty walk.plan (IsLeft objects walk.plan walk.taken) e × IsLate objects walk.plan (IsLeft objects walk.plan walk.taken) e
      × ((answer : Option (Result Info Error)) (later : TopoWalk F P) → Next objects faulty answers new answer later → answer ≡ None)

  -- after the end nothing is ready, and nothing follows
  abbrev pub StaysEnded : Type 0
  StaysEnded =
      (walk new : TopoWalk F P)
      → Next objects faulty answers walk None new
      → (new.ready ≡ []) × ((answer : Option (Result Info Error)) (later : TopoWalk F P) → Next objects faulty answers new answer later → answer ≡ None)

  -- each parent of a commit that is given has a row or can be read
  abbrev pub ParentsAreKnown : Type 0
  ParentsAreKnown =
      (walk new : TopoWalk F P) (list : List (Result Info Error)) (info : Info)
      → IsStarted objects faulty answers walk
      → Yields (Next objects faulty answers) walk list new
      → Contains list (Ok info)
      → (p : ObjectId)
      → Contains info.parent_ids.items p
      → (in_use : Bool) × IsKnown (objects walk.plan.store) walk.plan.rows in_use p

  -- as long as the rows are in use
  abbrev pub TellsTheGenerations : Type 0
  TellsTheGenerations =
      (walk mid new : TopoWalk F P) (list : List (Result Info Error)) (info : Info)
      → IsStarted objects faulty answers walk
      → IsAgreeing (objects walk.plan.store) walk.plan.rows
      → Yields (Next objects faulty answers) walk list mid
      → Next objects faulty answers mid (Some (Ok info)) new
      → new.counted.in_use ≡ true
      → info.generation ≡ row_generation (row_of walk.plan.rows info.id)

  -- as long as no fault came
  abbrev pub CountsDownToTheDepth : Type 0
  CountsDownToTheDepth =
      (walk new : TopoWalk F P) (list : List (Result Info Error))
      → IsStarted objects faulty answers walk
      → IsAgreeing (objects walk.plan.store) walk.plan.rows
      → Yields (Next objects faulty answers) walk list new
      → ((e : Error) → Contains list (Err e) → ⊥)
      → IsCounting objects walk.plan new.counted

  -- a built walk over rows that agree, or none, that is drawn to its end and gives no fault
  abbrev pub FaultlessRunsAreInOrder : Type 0
  FaultlessRunsAreInOrder =
      (walk : TopoWalk F P) (accepts : ObjectId → Bool) (list : List (Result Info Error))
      → AnswersBy answers walk.predicate accepts
      → IsStarted objects faulty answers walk
      → IsAgreeing (objects walk.plan.store) walk.plan.rows
      → ((e : Error) → Contains list (Err e) → ⊥)
      → Drains (Next objects faulty answers) walk list
      → GivesTextOrder objects walk.plan accepts list

  -- such a walk that is drawn as far as one likes
  abbrev pub FaultlessRunsBeginInOrder : Type 0
  FaultlessRunsBeginInOrder =
      (walk new : TopoWalk F P) (accepts : ObjectId → Bool) (list : List (Result Info Error))
      → AnswersBy answers walk.predicate accepts
      → IsStarted objects faulty answers walk
      → IsAgreeing (objects walk.plan.store) walk.plan.rows
      → ((e : Error) → Contains list (Err e) → ⊥)
      → Yields (Next objects faulty answers) walk list new
      → BeginsTextOrder objects walk.plan accepts list

  -- such a walk through all parents whose predicate accepts all, drawn to its end
  abbrev pub FaultlessRunsGiveTheDifference : Type 0
  FaultlessRunsGiveTheDifference =
      (walk : TopoWalk F P) (list : List (Result Info Error))
      → AnswersBy answers walk.predicate (λ i. true)
      → IsStarted objects faulty answers walk
      → walk.plan.parents ≡ mode.All
      → IsAgreeing (objects walk.plan.store) walk.plan.rows
      → ((e : Error) → Contains list (Err e) → ⊥)
      → Drains (Next objects faulty answers) walk list
      → GivesTextDifference (objects walk.plan.store) walk.plan.tips walk.plan.ends list
