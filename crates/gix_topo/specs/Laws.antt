-- What a topological walk gives, over the definitions alone: the words of its laws.
use Rattle.std.specs.Prelude.{◌≡◌, ◌≢◌, ℕ, suc, ◌+◌, ℤ, List, [], ◌∷◌, filter, length, Bool, false, Contains, Option, Some, Result, Ok, Err, All}
use Rattle.std.specs.List.{AllZip}
use Rattle.std.specs.FinSet as set
use Rattle.std.specs.Iterator.{Drains}
use Rattle.gix_hash.specs.declared.ObjectId.{ObjectId}
use Rattle.gix_object.specs.declared.find.existing_iter.Error.TheVariants as existing
use Rattle.gix_object.specs.Object.{Objects}
use Rattle.gix_revwalk.specs.declared.Info.{Info}
use Rattle.gix_topo.specs.declared.Sorting.{Sorting}
use Rattle.gix_topo.specs.declared.Sorting.TheVariants as order
use Rattle.gix_topo.specs.declared.Error.{Error}
use Rattle.gix_topo.specs.declared.Error.TheVariants as error
use Rattle.gix_hash.specs.Reach.{Reaches}
use Rattle.gix_topo.specs.WalkSet.{IsInWalk, IsAcyclicIn}
use Rattle.gix_topo.specs.DateOrder.{IsBestMade}
use Rattle.gix_topo.specs.TopoOrder.{IsLastMade}
use Rattle.gix_revwalk.specs.ListsByTurn.{IsBeginningBy, IsListBy}
use Rattle.gix_revwalk.specs.Commits.{parents_of, time_of}
use Rattle.gix_revwalk.specs.Infos.{given_ids, IsInfo, IsRowGeneration}
use Rattle.gix_revwalk.specs.Asking.{AnswersBy}
use Rattle.gix_revwalk.specs.Texts.{text_next}
use Rattle.gix_revwalk.specs.Ids.{AreDistinct, new_ids}
use Rattle.gix_topo.specs.Walk.{TopoPlan, TopoWalk, Ready, walked_of, text_walked, IsMember, IsTextMember, IsSound, IsStarted, Next, ready_ids, was_ready, named_ids}

-- what comes next in the order that was asked for
abbrev pub IsNextBy :
    Sorting → (ObjectId → ℤ) → (ObjectId → List ObjectId) → (ObjectId → Type 0) → List ObjectId → List ObjectId → ObjectId → Type 0
IsNextBy order.DateOrder = IsBestMade
IsNextBy order.TopoOrder = IsLastMade

-- which commit a walk takes next
abbrev pub IsNextTaken : {F : Type 0} → (F → Objects) → TopoPlan F → List ObjectId → ObjectId → Type 0
IsNextTaken objects plan = IsNextBy plan.sorting (time_of (objects plan.store)) (walked_of objects plan) (IsMember objects plan) plan.tips

-- the answer is this commit, with all its parents
pub record IsCommitInfo {F : Type 0} (objects : F → Objects) (plan : TopoPlan F) (info : Info) (i : ObjectId) : Type 0 where
  pub generation : Option ℕ
  pub by_row : IsRowGeneration plan.rows i generation
  pub info_is : IsInfo info i (parents_of (objects plan.store) i) generation (Some (time_of (objects plan.store) i))

abbrev pub IsGiven : {F : Type 0} → (F → Objects) → TopoPlan F → Result Info Error → ObjectId → Type 0
IsGiven objects plan (Ok info) i = IsCommitInfo objects plan info i
IsGiven objects plan (Err e) i = ⊥

-- the answers are the commits in order, without the commits that the predicate refuses
pub record GivesInOrder {F : Type 0} (objects : F → Objects) (plan : TopoPlan F) (accepts : ObjectId → Bool) (list : List (Result Info Error)) : Type 0 where
  pub ids : List ObjectId
  pub in_order : IsListBy (IsNextTaken objects plan) ids
  pub given : AllZip (IsGiven objects plan) list (filter accepts ids)

-- the answers are the first commits in order, without the commits that the predicate refuses
pub record BeginsInOrder {F : Type 0} (objects : F → Objects) (plan : TopoPlan F) (accepts : ObjectId → Bool)
    (list : List (Result Info Error)) : Type 0 where
  pub ids : List ObjectId
  pub begins : IsBeginningBy (IsNextTaken objects plan) ids
  pub given : AllZip (IsGiven objects plan) list (filter accepts ids)

-- the same by the parents that texts name
abbrev pub IsNextByText : {F : Type 0} → (F → Objects) → TopoPlan F → List ObjectId → ObjectId → Type 0
IsNextByText objects plan =
    IsNextBy plan.sorting (time_of (objects plan.store)) (text_walked objects plan) (IsTextMember objects plan) plan.tips

-- the answer is this commit, with all the parents that its text names, and with its committer's time, or 0 where it has no committer
pub record IsTextInfo {F : Type 0} (objects : F → Objects) (plan : TopoPlan F) (info : Info) (i : ObjectId) : Type 0 where
  pub generation : Option ℕ
  pub by_row : IsRowGeneration plan.rows i generation
  pub info_is : IsInfo info i (text_next (objects plan.store) i) generation (Some (time_of (objects plan.store) i))

abbrev pub IsTextGiven : {F : Type 0} → (F → Objects) → TopoPlan F → Result Info Error → ObjectId → Type 0
IsTextGiven objects plan (Ok info) i = IsTextInfo objects plan info i
IsTextGiven objects plan (Err e) i = ⊥

-- the answers are the commits in order by the texts, without the commits that the predicate refuses
pub record GivesTextOrder {F : Type 0} (objects : F → Objects) (plan : TopoPlan F) (accepts : ObjectId → Bool)
    (list : List (Result Info Error)) : Type 0 where
  pub ids : List ObjectId
  pub in_order : IsListBy (IsNextByText objects plan) ids
  pub given : AllZip (IsTextGiven objects plan) list (filter accepts ids)

-- the answers are the first commits in order by the texts, without the commits that the predicate refuses
pub record BeginsTextOrder {F : Type 0} (objects : F → Objects) (plan : TopoPlan F) (accepts : ObjectId → Bool)
    (list : List (Result Info Error)) : Type 0 where
  pub ids : List ObjectId
  pub begins : IsBeginningBy (IsNextByText objects plan) ids
  pub given : AllZip (IsTextGiven objects plan) list (filter accepts ids)

-- neither memory nor the store failed
abbrev pub IsNoRefusal : Result Info Error → Type 0
IsNoRefusal answer = (answer ≢ Err error.Memory) × (answer ≢ Err (error.Find existing.Store))

-- a built walk drawn to its end, and what is known of its history
pub record IsWholeRun {F P : Type 0} (objects : F → Objects) (faulty : F → ObjectId → Type 0) (answers : P → ObjectId → Bool → P → Type 0)
    (walk : TopoWalk F P) (accepts : ObjectId → Bool) (list : List (Result Info Error)) : Type 0 where
  pub by_test : AnswersBy answers walk.predicate accepts
  pub started : IsStarted objects faulty answers walk
  pub sound : IsSound objects faulty walk.plan
  pub unrefused : All IsNoRefusal list
  pub drawn : Drains (Next objects faulty answers) walk list

-- nothing is left where nothing is ready
abbrev pub left_beside : ℕ → List Ready → ℕ
left_beside n [] = 0
left_beside n (r ∷ ready) = n + suc (length ready)

-- how many answers a walk can still give: the ready commits, and the ids that rows and the texts of stored commits name and that aren't taken or ready
abbrev pub answers_left : {F P : Type 0} → (F → Objects) → TopoWalk F P → ℕ
answers_left objects walk = left_beside (length (new_ids (was_ready walk) (named_ids (objects walk.plan.store) walk.plan.rows))) walk.ready

-- the ready commits are different ones, and not taken
pub record AreApart {F P : Type 0} (walk : TopoWalk F P) : Type 0 where
  pub distinct : AreDistinct (ready_ids walk.ready)
  pub untaken : (i : ObjectId) → Contains (ready_ids walk.ready) i → set.contains walk.taken i ≡ false

-- the answers are commits and no faults, each once, and only commits that the tips reach and the ends don't; and all of these, where none
-- of them is its own ancestor
pub record GivesDifference (objects : Objects) (tips ends : List ObjectId) (answers : List (Result Info Error)) : Type 0 where
  pub commits : (e : Error) → Contains answers (Err e) → ⊥
  pub once : AreDistinct (given_ids answers)
  pub shown : (i : ObjectId) → Contains (given_ids answers) i → Reaches (parents_of objects) tips i × (Reaches (parents_of objects) ends i → ⊥)
  pub all :
      IsAcyclicIn (parents_of objects) (IsInWalk (parents_of objects) (parents_of objects) tips ends)
      → (i : ObjectId)
      → Reaches (parents_of objects) tips i
      → (Reaches (parents_of objects) ends i → ⊥)
      → Contains (given_ids answers) i

-- the answers have each commit once, and only commits that the tips reach and the ends don't, by the parents that texts name; and all of
-- these, where none of them is its own ancestor
pub record GivesTextDifference (objects : Objects) (tips ends : List ObjectId) (answers : List (Result Info Error)) : Type 0 where
  pub once : AreDistinct (given_ids answers)
  pub shown :
      (i : ObjectId)
      → Contains (given_ids answers) i
      → Reaches (text_next objects) tips i × (Reaches (text_next objects) ends i → ⊥)
  pub all :
      IsAcyclicIn (text_next objects) (IsInWalk (text_next objects) (text_next objects) tips ends)
      → (i : ObjectId)
      → Reaches (text_next objects) tips i
      → (Reaches (text_next objects) ends i → ⊥)
      → Contains (given_ids answers) i
