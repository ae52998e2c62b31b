-- The statements of the laws of simple walks, over any store and predicate.
use Rattle.std.specs.Prelude.{◌≡◌, ◌≢◌, ◌≤◌, ◌≤ℤ◌, ◌↔◌, ℤ, List, [], ◌∷◌, ◌++◌, Bool, false, true, Option, Some, None, Result, Err, All, Contains, length, take, filter}
use Rattle.std.specs.Cmp.Lexicographic.{slice_cmp}
use Rattle.std.specs.Iterator.{Drains, Yields}
use Rattle.std.specs.List.{AllZip}
use Rattle.std.specs.Option.{option_cmp}
use Rattle.std.specs.Ordering.{nat_cmp, int_cmp, ordering_then}
use Rattle.std.specs.declared.cmp.Ordering.{Ordering}
use Rattle.gix_hash.specs.declared.ObjectId.{ObjectId}
use Rattle.gix_hash.specs.Id.{id_cmp}
use Rattle.gix_object.specs.Object.{Objects}
use Rattle.gix_revwalk.specs.declared.Info.{Info}
use Rattle.gix_revwalk.specs.declared.Parents.TheVariants as mode
use Rattle.gix_revwalk.specs.declared.CommitTimeOrder.{CommitTimeOrder}
use Rattle.gix_revwalk.specs.declared.CommitTimeOrder.TheVariants.{NewestFirst}
use Rattle.gix_simple.specs.declared.Error.{Error}
use Rattle.gix_revwalk.specs.ListsByTurn.{IsBeginningBy, IsListBy}
use Rattle.gix_revwalk.specs.BreadthOrder.{IsFirstNew}
use Rattle.gix_revwalk.specs.TimeOrder.{IsNextByTime}
use Rattle.gix_hash.specs.Reach.{Reaches, Tells}
use Rattle.gix_revwalk.specs.Agreeing.{IsAgreeing}
use Rattle.gix_revwalk.specs.Commits.{ReadsWhole, parents_of, time_of}
use Rattle.gix_simple.specs.Walk.{SimpleWalk, Next, IsMade, time_order, cutoff}
use Rattle.gix_revwalk.specs.Ids.{ids_of, AreDistinct, new_ids}
use Rattle.gix_simple.specs.Building.{IsBuilt, IsUncut}
use Rattle.gix_revwalk.specs.Infos.{given, given_ids}
use Rattle.gix_simple.specs.Laws.{IsFresh, IsWholeRun, IsBegunRun, IsPlainRun, IsPlain, GivesInOrder, GivesBeginning, IsNewWalk, IsNoRefusal, GivesBreadthFirst, GivesDifference, IsFaultlessRun, BeginsTextOrder, GivesTextOrder, accepted_parents, recent_parents, next_of, starts_of, named_in, answers_left}
use Rattle.gix_revwalk.specs.Asking.{AnswersBy}
use Rattle.gix_simple.specs.Runs.{AsksOnce, TellsGenerations, AreAlike, AreBuiltAlike, GiveTheSame, GivesUnhidden}

-- commits are compared by their ids, then by their parents, then by their generations, and then by their times
abbrev pub info_cmp : Info → Info → Ordering
info_cmp a b =
    ordering_then (id_cmp a.id b.id)
    (ordering_then (slice_cmp id_cmp a.parent_ids.items b.parent_ids.items)
    (ordering_then (option_cmp nat_cmp a.generation b.generation) (option_cmp int_cmp a.commit_time b.commit_time)))

-- there is a test of what ids reach
abbrev pub ReachIsDecided : Type 0
ReachIsDecided = (objects : Objects) (ids : List ObjectId) → (test : ObjectId → Bool) × Tells test (Reaches (parents_of objects) ids)

-- There is a list in breadth order, whatever the starts are, where each id names next some parents of its commit in a store. In a
-- store are finitely many.
abbrev pub SomeBreadthOrder : Type 0
SomeBreadthOrder =
    (objects : Objects) (next : ObjectId → List ObjectId) (starts : List ObjectId)
    → ((c i : ObjectId) → Contains (next c) i → Contains (parents_of objects c) i)
    → (ids : List ObjectId) × IsListBy (IsFirstNew next starts) ids

-- and one in each order by time
abbrev pub SomeTimeOrder : Type 0
SomeTimeOrder =
    (order : CommitTimeOrder) (time : ObjectId → ℤ) (objects : Objects) (next : ObjectId → List ObjectId) (starts : List ObjectId)
    → ((c i : ObjectId) → Contains (next c) i → Contains (parents_of objects c) i)
    → (ids : List ObjectId) × IsListBy (IsNextByTime order time next starts) ids

-- there is at most one list in breadth order
abbrev pub OneBreadthOrder : Type 0
OneBreadthOrder =
    (next : ObjectId → List ObjectId) (starts ids those : List ObjectId)
    → IsListBy (IsFirstNew next starts) ids
    → IsListBy (IsFirstNew next starts) those
    → ids ≡ those

-- a beginning in breadth order is the first ids of the whole list
abbrev pub OneBreadthBeginning : Type 0
OneBreadthBeginning =
    (next : ObjectId → List ObjectId) (starts ids whole : List ObjectId)
    → IsBeginningBy (IsFirstNew next starts) ids
    → IsListBy (IsFirstNew next starts) whole
    → ids ≡ take (length ids) whole

-- there is at most one list in an order by time
abbrev pub OneTimeOrder : Type 0
OneTimeOrder =
    (order : CommitTimeOrder) (time : ObjectId → ℤ) (next : ObjectId → List ObjectId) (starts ids those : List ObjectId)
    → IsListBy (IsNextByTime order time next starts) ids
    → IsListBy (IsNextByTime order time next starts) those
    → ids ≡ those

-- a beginning in an order by time is the first ids of the whole list
abbrev pub OneTimeBeginning : Type 0
OneTimeBeginning =
    (order : CommitTimeOrder) (time : ObjectId → ℤ) (next : ObjectId → List ObjectId) (starts ids whole : List ObjectId)
    → IsBeginningBy (IsNextByTime order time next starts) ids
    → IsListBy (IsNextByTime order time next starts) whole
    → ids ≡ take (length ids) whole

module _ {F P : Type 0} (objects : F → Objects) (faulty : F → ObjectId → Type 0) (answers : P → ObjectId → Bool → P → Type 0) where
  -- a walk that was made of some tips
  abbrev pub MakesNewWalks : Type 0
  MakesNewWalks =
      (store : F) (predicate : P) (accepts : ObjectId → Bool) (tips : List ObjectId) (walk : SimpleWalk F P)
      → AnswersBy answers predicate accepts
      → IsMade objects faulty answers store predicate tips walk
      → IsNewWalk objects answers store accepts tips walk

  -- a walk after any calls that choose its order
  abbrev pub BuildsFreshWalks : Type 0
  BuildsFreshWalks =
      (store : F) (predicate : P) (accepts : ObjectId → Bool) (tips : List ObjectId) (walk : SimpleWalk F P)
      → AnswersBy answers predicate accepts
      → IsBuilt objects faulty answers store predicate tips walk
      → IsFresh objects walk accepts × AnswersBy answers walk.predicate accepts × (walk.store ≡ store)

  -- a new walk that is drawn to its end, where all that is met reads whole
  abbrev pub NewWalksGiveBreadthFirst : Type 0
  NewWalksGiveBreadthFirst =
      (store : F) (predicate : P) (accepts : ObjectId → Bool) (tips : List ObjectId) (walk : SimpleWalk F P) (list : List (Result Info Error))
      → let next = accepted_parents (objects store) mode.All accepts in
      let starts = new_ids (λ i. false) (filter accepts tips) in
      AnswersBy answers predicate accepts
      → IsMade objects faulty answers store predicate tips walk
      → ((i : ObjectId) → Reaches next starts i → ReadsWhole (objects store) i)
      → All IsNoRefusal list
      → Drains (Next objects faulty answers) walk list
      → GivesBreadthFirst (objects store) next starts list

  -- a walk without hidden tips and rows, in no order by time
  abbrev pub PlainRunsAreInBreadthOrder : Type 0
  PlainRunsAreInBreadthOrder =
      (walk : SimpleWalk F P) (accepts : ObjectId → Bool) (list : List (Result Info Error))
      → let next = accepted_parents (objects walk.store) walk.parents accepts in
      time_order walk.parents walk.sorting ≡ None
      → IsPlainRun objects faulty answers walk accepts next list
      → (ids : List ObjectId) × AllZip (IsPlain (objects walk.store) walk.parents None) list ids × IsListBy (IsFirstNew next (ids_of walk.pending)) ids

  -- such a walk in an order by time
  abbrev pub PlainRunsAreInTimeOrder : Type 0
  PlainRunsAreInTimeOrder =
      (walk : SimpleWalk F P) (accepts : ObjectId → Bool) (order : CommitTimeOrder) (list : List (Result Info Error))
      → let next = recent_parents (objects walk.store) walk.parents accepts (cutoff walk.parents walk.sorting) in
      time_order walk.parents walk.sorting ≡ Some order
      → IsPlainRun objects faulty answers walk accepts next list
      → (ids : List ObjectId) × AllZip (IsPlain (objects walk.store) walk.parents (Some order)) list ids
      × IsListBy (IsNextByTime order (time_of (objects walk.store)) next (ids_of walk.pending)) ids

  -- any walk that is drawn to its end
  abbrev pub RunsAreInOrder : Type 0
  RunsAreInOrder =
      (walk : SimpleWalk F P) (accepts hidden : ObjectId → Bool) (list : List (Result Info Error))
      → IsWholeRun objects faulty answers walk accepts hidden list
      → GivesInOrder objects walk accepts hidden list

  -- a walk without hidden tips that is drawn to its end, none of whose answers is a fault
  abbrev pub FaultlessRunsAreInOrder : Type 0
  FaultlessRunsAreInOrder =
      (walk : SimpleWalk F P) (accepts : ObjectId → Bool) (list : List (Result Info Error))
      → IsFaultlessRun objects faulty answers walk accepts list
      → GivesTextOrder objects walk accepts list

  -- a walk without hidden tips that is drawn as far as one likes, and has given no fault
  abbrev pub FaultlessRunsBeginInOrder : Type 0
  FaultlessRunsBeginInOrder =
      (walk left : SimpleWalk F P) (accepts : ObjectId → Bool) (list : List (Result Info Error))
      → AnswersBy answers walk.predicate accepts
      → IsFresh objects walk accepts
      → walk.hidden_tips ≡ []
      → IsAgreeing (objects walk.store) walk.rows
      → ((e : Error) → Contains list (Err e) → ⊥)
      → Yields (Next objects faulty answers) walk list left
      → BeginsTextOrder objects walk accepts list

  -- no id twice, and exactly what is reached
  abbrev pub GivesEachOnce : Type 0
  GivesEachOnce =
      (walk : SimpleWalk F P) (accepts hidden : ObjectId → Bool) (list : List (Result Info Error)) (gives : GivesInOrder objects walk accepts hidden list)
      → AreDistinct gives.ids × ((i : ObjectId) → Contains gives.ids i ↔ Reaches (next_of objects walk accepts hidden) (starts_of walk hidden) i)

  -- any walk, drawn as far as one likes
  abbrev pub RunsBeginInOrder : Type 0
  RunsBeginInOrder =
      (walk left : SimpleWalk F P) (accepts hidden : ObjectId → Bool) (list : List (Result Info Error))
      → IsBegunRun objects faulty answers walk accepts hidden list left
      → GivesBeginning objects walk accepts hidden list

  -- of what it has given, no id twice, and only what is reached
  abbrev pub BeginsOnce : Type 0
  BeginsOnce =
      (walk : SimpleWalk F P) (accepts hidden : ObjectId → Bool) (list : List (Result Info Error)) (gives : GivesBeginning objects walk accepts hidden list)
      → AreDistinct gives.ids × ((i : ObjectId) → Contains gives.ids i → Reaches (next_of objects walk accepts hidden) (starts_of walk hidden) i)

  -- a walk through all parents, without a cutoff, whose predicate accepts all, where all that is reached reads whole
  abbrev pub RunsGiveTheDifference : Type 0
  RunsGiveTheDifference =
      (store : F) (predicate : P) (tips : List ObjectId) (walk : SimpleWalk F P) (list : List (Result Info Error))
      → AnswersBy answers predicate (λ i. true)
      → (built : IsBuilt objects faulty answers store predicate tips walk)
      → IsUncut built
      → walk.parents ≡ mode.All
      → IsAgreeing (objects store) walk.rows
      → ((i : ObjectId) → Reaches (parents_of (objects store)) (tips ++ walk.hidden_tips) i → ReadsWhole (objects store) i)
      → All IsNoRefusal list
      → Drains (Next objects faulty answers) walk list
      → GivesDifference (objects store) tips walk.hidden_tips list

  -- such a walk with hidden tips, none of whose answers is a fault
  abbrev pub FaultlessRunsGiveTheDifference : Type 0
  FaultlessRunsGiveTheDifference =
      (store : F) (predicate : P) (tips : List ObjectId) (walk : SimpleWalk F P) (list : List (Result Info Error))
      → AnswersBy answers predicate (λ i. true)
      → (built : IsBuilt objects faulty answers store predicate tips walk)
      → IsUncut built
      → walk.parents ≡ mode.All
      → IsAgreeing (objects store) walk.rows
      → walk.hidden_tips ≢ []
      → ((e : Error) → Contains list (Err e) → ⊥)
      → Drains (Next objects faulty answers) walk list
      → GivesDifference (objects store) tips walk.hidden_tips list

  -- walks that were built by the same calls
  abbrev pub BuildsAlike : Type 0
  BuildsAlike =
      (store : F) (predicate : P) (accepts : ObjectId → Bool) (tips : List ObjectId) (walk other : SimpleWalk F P)
      → AnswersBy answers predicate accepts
      → AreBuiltAlike objects faulty answers store predicate tips walk other
      → AreAlike walk other

  -- a walk with hidden tips, and one without
  abbrev pub HidesWhatIsReached : Type 0
  HidesWhatIsReached =
      (walk other : SimpleWalk F P) (accepts hidden shown : ObjectId → Bool) (list longer : List (Result Info Error))
      → AreAlike walk other
      → other.hidden_tips ≡ []
      → IsWholeRun objects faulty answers walk accepts hidden list
      → IsWholeRun objects faulty answers other accepts shown longer
      → GivesUnhidden objects walk other list longer

  -- behind its first step a walk takes the same steps with other hidden tips
  abbrev pub HidesNoLater : Type 0
  HidesNoLater =
      (walk new : SimpleWalk F P) (tips : List ObjectId) (answer : Option (Result Info Error))
      → walk.begun ≡ true
      → Next objects faulty answers walk answer new
      → (new.begun ≡ true) × Next objects faulty answers (record walk { hidden_tips = tips }) answer (record new { hidden_tips = tips })

  -- two walks with different rows
  abbrev pub RowsLeaveTheIds : Type 0
  RowsLeaveTheIds =
      (walk other : SimpleWalk F P) (accepts hidden : ObjectId → Bool) (list there : List (Result Info Error))
      → AreAlike walk other
      → IsWholeRun objects faulty answers walk accepts hidden list
      → IsWholeRun objects faulty answers other accepts hidden there
      → GiveTheSame objects walk other list there

  -- two walks with different rows: their answers are commits that differ in generations alone
  abbrev pub RowsChangeGenerationsAlone : Type 0
  RowsChangeGenerationsAlone =
      (walk other : SimpleWalk F P) (accepts hidden : ObjectId → Bool) (list there : List (Result Info Error))
      → AreAlike walk other
      → IsWholeRun objects faulty answers walk accepts hidden list
      → IsWholeRun objects faulty answers other accepts hidden there
      → (infos others : List Info) × (list ≡ given infos) × (there ≡ given others)
      × AllZip (λ (a : Info) (b : Info). (a.id ≡ b.id) × (a.parent_ids.items ≡ b.parent_ids.items) × (a.commit_time ≡ b.commit_time)) infos others

  -- which generations are given
  abbrev pub TellsTheGenerations : Type 0
  TellsTheGenerations =
      (walk new : SimpleWalk F P) (list : List (Result Info Error))
      → Yields (Next objects faulty answers) walk list new
      → TellsGenerations objects faulty walk list

  -- newest first, where no parent is newer than its child
  abbrev pub TimesFall : Type 0
  TimesFall =
      (walk : SimpleWalk F P) (accepts hidden : ObjectId → Bool) (list : List (Result Info Error))
      → time_order walk.parents walk.sorting ≡ Some NewestFirst
      → ((c i : ObjectId) → Contains (parents_of (objects walk.store) c) i → time_of (objects walk.store) i ≤ℤ time_of (objects walk.store) c)
      → (gives : GivesInOrder objects walk accepts hidden list) (taken rest : List ObjectId) (a b : ObjectId)
      → gives.ids ≡ taken ++ a ∷ b ∷ rest
      → time_of (objects walk.store) b ≤ℤ time_of (objects walk.store) a

  -- whatever faults come, no id is given twice
  abbrev pub GivesNeverTwice : Type 0
  GivesNeverTwice =
      (store : F) (predicate : P) (tips : List ObjectId) (walk new : SimpleWalk F P) (list : List (Result Info Error))
      → IsBuilt objects faulty answers store predicate tips walk
      → Yields (Next objects faulty answers) walk list new
      → AreDistinct (given_ids list)

  -- whatever faults come, no id is asked about twice
  abbrev pub AsksNeverTwice : Type 0
  AsksNeverTwice =
      (store : F) (predicate : P) (tips : List ObjectId) (walk new : SimpleWalk F P) (list : List (Result Info Error))
      → IsBuilt objects faulty answers store predicate tips walk
      → Yields (Next objects faulty answers) walk list new
      → AsksOnce answers (tips ++ named_in objects walk) predicate new.predicate

  -- how many answers there are
  abbrev pub Ends : Type 0
  Ends =
      (walk new : SimpleWalk F P) (list : List (Result Info Error))
      → Yields (Next objects faulty answers) walk list new
      → length list ≤ answers_left objects walk
