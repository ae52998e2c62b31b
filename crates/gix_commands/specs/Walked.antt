-- A walk over records, and the lines that it writes.
use Rattle.std.specs.Prelude.{◌≡◌, ◌≢◌, ℕ, List, [], ◌∷◌, ◌++◌, length, ◌<◌, Contains, Option, Some, None, Result, Ok, Err}
use Rattle.std.specs.List.{flat_map}
use Rattle.std.specs.Iterator.{Yields, YieldsThen}
use Rattle.gix_hash.specs.declared.ObjectId.{ObjectId}
use Rattle.gix_hash.specs.Id.{hex_of}
use Rattle.gix_object.specs.Object.{Objects}
use Rattle.gix_commitgraph.specs.Rows.{GraphRow}
use Rattle.gix_revwalk.specs.Asking.{accepts_all}
use Rattle.gix_revwalk.specs.Infos.{given}
use Rattle.gix_revwalk.specs.declared.Info.{Info}
use Rattle.gix_revwalk.specs.declared.Parents.{Parents}
use Rattle.gix_revwalk.specs.declared.Unfiltered.{Unfiltered}
use Rattle.gix_simple.specs.declared.Error.{Error}
use Rattle.gix_simple.specs.declared.Sorting.{Sorting}
use Rattle.gix_simple.specs.declared.Sorting.TheVariants as sorting
use Rattle.gix_simple.specs.Building.{IsSortedByTime, FailsAtTip}
use Rattle.gix_simple.specs.Walk.{SimpleWalk, IsMade, Next}
use Rattle.gix_words.specs.declared.fault.Fault.{Fault}
use Rattle.gix_words.specs.declared.fault.Fault.TheVariants as fault
use Rattle.gix_words.specs.Faults.{fault_of_walk}

-- a walk over stored objects, whose look-ups don't fail, through all commits
abbrev pub Walk : Type 0
Walk = SimpleWalk Objects Unfiltered

abbrev pub objects_of : Objects → Objects
objects_of objects = objects

abbrev pub never_faulty : Objects → ObjectId → Type 0
never_faulty objects i = ⊥

-- one answer of a walk
abbrev pub Answers : Walk → Option (Result Info Error) → Walk → Type 0
Answers = Next objects_of never_faulty accepts_all

-- a walk that was made of these tips
abbrev pub IsMadeOf : Objects → List ObjectId → Walk → Type 0
IsMadeOf objects tips walk = IsMade objects_of never_faulty accepts_all objects (record {}) tips walk

-- the same walk in an order
abbrev pub IsSorted : Walk → Sorting → Walk → Type 0
IsSorted made sorting.BreadthFirst walk = walk ≡ record made { sorting = sorting.BreadthFirst }
IsSorted made (sorting.ByCommitTime order) walk = IsSortedByTime objects_of made (sorting.ByCommitTime order) walk
IsSorted made (sorting.ByCommitTimeCutoff order seconds) walk = IsSortedByTime objects_of made (sorting.ByCommitTimeCutoff order seconds) walk

-- a walk in an order from tips, through some parents, with rows, which is to hide what other tips reach, before its first step
pub record StartsFrom (objects : Objects) (rows : List GraphRow) (parents : Parents) (by : Sorting) (tips hidden : List ObjectId) (walk : Walk)
    : Type 0 where
  pub made : Walk
  pub sorted : Walk
  pub makes : IsMadeOf objects tips made
  pub sorts : IsSorted made by sorted
  pub hides : walk ≡ record sorted { parents = parents; rows = rows; hidden_tips = hidden }

-- In an order by time the time of a tip can't be read. Breadth first no commit is read before the first step.
pub record FailsAtStart (objects : Objects) (by : Sorting) (tips : List ObjectId) (e : Error) : Type 0 where
  pub by_time : by ≢ sorting.BreadthFirst
  pub made : Walk
  pub makes : IsMadeOf objects tips made
  pub fails : FailsAtTip made.store (never_faulty made.store) made.pending e

-- which fault of a run its fault is
abbrev pub IsWalkFault : Error → Fault → Type 0
IsWalkFault e f = f ≡ fault_of_walk e

-- a walk may fail so before its first step, unless memory ran out
abbrev pub IsStartFault : Objects → Sorting → List ObjectId → Fault → Type 0
IsStartFault objects by tips e = e ≢ fault.Memory → (why : Error) × FailsAtStart objects by tips why × (e ≡ fault_of_walk why)

-- each of these commits has it
abbrev pub Have : (Has : ObjectId → Type 0) → List Info → Type 0
Have Has infos = (info : Info) → Contains infos info → Has info.id

-- any commit has it
abbrev pub Any : ObjectId → Type 0
Any i = Unit {0}

-- How a walk ended that gave these commits, by its steps and the meaning of its faults: it has no more commits, its next answer is a
-- fault, or its next answer is a commit for which there was no memory, or that lacks what each has to have.
pub data Ends {W E : Type 0} (Steps : W → Option (Result Info E) → W → Type 0) (Tells : E → Fault → Type 0) (Has : ObjectId → Type 0) (walk : W) (infos : List Info)
    : Result (Unit {0}) Fault → Type 0 where
  finished : (new : W) → YieldsThen Steps walk (given infos) None new → Ends Steps Tells Has walk infos (Ok tt)
  failed : (e : E) (f : Fault) (new : W) → YieldsThen Steps walk (given infos) (Some (Err e)) new → Tells e f → Ends Steps Tells Has walk infos (Err f)
  cut_short : (info : Info) (new : W) → YieldsThen Steps walk (given infos) (Some (Ok info)) new → Ends Steps Tells Has walk infos (Err fault.Memory)
  unstored : (info : Info) (new : W) → YieldsThen Steps walk (given infos) (Some (Ok info)) new → (Has info.id → ⊥)
      → Ends Steps Tells Has walk infos (Err (fault.Missing info.id))

-- How a walk ended of which so many commits at most were to be written: it gave as many, and nothing was drawn behind them, or it ended
-- before.
pub data EndsWithin {W E : Type 0} (Steps : W → Option (Result Info E) → W → Type 0) (Tells : E → Fault → Type 0) (Has : ObjectId → Type 0)
    (those : List Info → List ObjectId) (limit : ℕ) (walk : W) (infos : List Info) : Result (Unit {0}) Fault → Type 0 where
  enough : (at : W) → Yields Steps walk (given infos) at → length (those infos) ≡ limit → EndsWithin Steps Tells Has those limit walk infos (Ok tt)
  before : {answer : Result (Unit {0}) Fault} → Ends Steps Tells Has walk infos answer → length (those infos) < limit
      → EndsWithin Steps Tells Has those limit walk infos answer

-- how a walk ended, with a limit of those that are written or without
abbrev pub EndsBy :
    {W E : Type 0} → (W → Option (Result Info E) → W → Type 0) → (E → Fault → Type 0) → (ObjectId → Type 0) → (List Info → List ObjectId) → Option ℕ → W
    → List Info → Result (Unit {0}) Fault → Type 0
EndsBy Steps Tells Has those None walk infos answer = Ends Steps Tells Has walk infos answer
EndsBy Steps Tells Has those (Some limit) walk infos answer = EndsWithin Steps Tells Has those limit walk infos answer

-- a limit asks for more than so many commits
abbrev pub AsksForMore : Option ℕ → ℕ → Type 0
AsksForMore None n = Unit {0}
AsksForMore (Some limit) n = n < limit

-- an id and a newline
abbrev pub line_of : ObjectId → List ℕ
line_of i = hex_of i ++ 10 ∷ []

-- the ids of commits, one a line
abbrev pub lines_of : List Info → List ℕ
lines_of infos = flat_map (λ info. line_of info.id) infos
