-- What the search reads, what it meets, and what it tells in the end.
use Rattle.std.specs.Prelude.{◌≡◌, ◌≢◌, ◌⊎◌, ◌+◌, ◌-◌, ◌^◌, ◌≤◌, ◌||◌, ℕ, List, length, Bool, true, false, cond, Option, Some, None, Contains, IsSome}
use Rattle.std.specs.FinSet as set
use Rattle.std.specs.Option.{option_map}
use Rattle.std.specs.declared.cmp.Reverse.{Reverse}
use Rattle.gix_hash.specs.declared.ObjectId.{ObjectId}
use Rattle.gix_hash.specs.Id.{id_cmp, is_among}
use Rattle.gix_hash.specs.Reach.{Reaches}
use Rattle.gix_object.specs.declared.find.existing_iter.Error.TheVariants as existing
use Rattle.gix_object.specs.Object.{Objects}
use Rattle.gix_commitgraph.specs.Rows.{GraphRow, row_of}
use Rattle.gix_contained.specs.Contained.{IsContainedFault}
use Rattle.gix_contained.specs.declared.search.Search.{Search}
use Rattle.gix_contained.specs.declared.waiting.Key.{Key}
use Rattle.gix_contained.specs.declared.waiting.Waiting.{Waiting}
use Rattle.gix_paint.specs.declared.Hidden.{Hidden}
use Rattle.gix_paint.specs.declared.Hidden.TheVariants as hidden_by
use Rattle.gix_revwalk.specs.Infos.{generation_in}
use Rattle.gix_paint.specs.Reading.{IsPassed, IsRowless, Reads, ReadsParents}
use Rattle.gix_paint.specs.Painting.{IsFaultAt, IsHistory}
use Rattle.gix_revwalk.specs.Agreeing.{rows_of}
use Rattle.gix_revwalk.specs.Commits.{commit_at, parents_of}
use Rattle.gix_revwalk.specs.Ids.{new_ids}

-- out of memory, or one of the ids, which has no row, can't be read
abbrev pub AskFails : Objects → (ObjectId → Type 0) → List GraphRow → List ObjectId → Hidden → Type 0
AskFails objects faulty rows ids why = why ≢ hidden_by.Find existing.Memory → (i : ObjectId) × Contains ids i × (row_of rows i ≡ None) × IsFaultAt objects faulty i why

-- the generation in a row that is in use, and infinity where there is none
abbrev pub generation_if : Bool → Option GraphRow → ℕ
generation_if in_use row = cond in_use (generation_in row) (2 ^ 32 - 1)

-- a commit that waits, and by what it is taken
abbrev pub Queued : Type 0
Queued = Key × Waiting

-- the parents that a commit brings
abbrev pub brings : Waiting → Option (List ObjectId)
brings w = option_map (λ ids. ids.items) w.parent_ids

-- the commit of an id waits, by its generation, and with the parents that the store says if that was asked
pub record Knows (objects : Objects) (rows : List GraphRow) (in_use : Bool) (i : ObjectId) (q : Queued) : Type 0 where
  pub of_id : q.1.id ≡ i
  pub generation : q.0.generation ≡ generation_if in_use (row_of rows i)
  pub brought : (ids : List ObjectId) → brings q.1 ≡ Some ids → Reads objects i ids
  pub read : row_of rows i ≡ None → IsSome (commit_at objects i)

-- the parents that a commit brings, or else those that are read now
pub data GivesParents (objects : Objects) (rows : List GraphRow) (in_use : Bool) (w : Waiting) (ids : List ObjectId) : Bool → Type 0 where
  brought : brings w ≡ Some ids → GivesParents objects rows in_use w ids in_use
  looked_up : {after : Bool} → ReadsParents objects rows in_use w.id ids after → GivesParents objects rows in_use w ids after

-- an id that is asked about, and its generation
abbrev pub AskedId : Type 0
AskedId = Reverse ℕ × ObjectId

-- the ids that are asked about, each with its generation
pub record AreAsked (rows : List GraphRow) (ids : List ObjectId) (asked : List AskedId) : Type 0 where
  pub covers : (i : ObjectId) → Contains ids i → (q : AskedId) × Contains asked q × (q.1 ≡ i)
  pub keyed : (q : AskedId) → Contains asked q → Contains ids q.1 × (q.0.0 ≡ generation_in (row_of rows q.1))

-- each was looked up
pub record AreLookedUp (objects : Objects) (rows : List GraphRow) (ids : List ObjectId) (asked : List AskedId) : Type 0 where
  pub are_asked : AreAsked rows ids asked
  pub read : (i : ObjectId) → Contains ids i → row_of rows i ≡ None → IsSome (commit_at objects i)

-- an id that wasn't met has the generation, and none that is left has a lower one
abbrev pub IsLowest : List AskedId → set.FinSet id_cmp → ℕ → Type 0
IsLowest asked met generation =
    ((q : AskedId) × Contains asked q × (set.contains met q.1 ≡ false) × (q.0.0 ≡ generation))
    × ((q : AskedId) → Contains asked q → generation ≤ q.0.0)

-- how many ids are new and how many commits wait, of these ids
abbrev pub room : {F : Type 0} → List ObjectId → Search F → ℕ
room named s = length (new_ids (set.contains s.met) named) + length s.queue

-- ids are met, and each that is new waits
pub record Meets {F : Type 0} (objects : F → Objects) (ids : List ObjectId) (old new : Search F) : Type 0 where
  pub objects_stay : new.source.objects ≡ old.source.objects
  pub graph_stays : new.source.graph ≡ old.source.graph
  pub use_stays : new.source.in_use ≡ old.source.in_use
  pub met : (i : ObjectId) → set.contains new.met i ≡ (is_among i ids || set.contains old.met i)
  pub keeps : (q : Queued) → Contains old.queue q → Contains new.queue q
  pub adds : (q : Queued) → Contains new.queue q → Contains old.queue q
      ⊎ (Contains ids q.1.id × Knows (objects old.source.objects.now) (rows_of old.source.graph) old.source.in_use q.1.id q)
  pub waits : (i : ObjectId) → Contains ids i → set.contains old.met i ≡ false
      → (q : Queued) × Contains new.queue q × Knows (objects old.source.objects.now) (rows_of old.source.graph) old.source.in_use i q
  pub spends : (named : List ObjectId) → ((i : ObjectId) → Contains ids i → is_among i named ≡ true) → room named new ≤ room named old

-- out of memory, or one of the ids can't be read, for which no row is read
abbrev pub MeetFails : {F : Type 0} → (F → Objects) → (F → ObjectId → Type 0) → List ObjectId → Search F → Hidden → Type 0
MeetFails objects faulty ids old why = why ≢ hidden_by.Find existing.Memory
    → (i : ObjectId) × Contains ids i × IsRowless (rows_of old.source.graph) old.source.in_use i
    × IsFaultAt (objects old.source.objects.now) (faulty old.source.objects.now) i why

-- the parents of a commit are met
pub record Follows {F : Type 0} (objects : F → Objects) (w : Waiting) (old new : Search F) : Type 0 where
  pub mid : Search F
  pub ids : List ObjectId
  pub objects_stay : mid.source.objects ≡ old.source.objects
  pub graph_stays : mid.source.graph ≡ old.source.graph
  pub met_stays : mid.met ≡ old.met
  pub queue_stays : mid.queue ≡ old.queue
  pub gives : GivesParents (objects old.source.objects.now) (rows_of old.source.graph) old.source.in_use w ids mid.source.in_use
  pub meets : Meets objects ids mid new

-- out of memory, or the commit can't be read, or one of its parents
abbrev pub FollowFails : {F : Type 0} → (F → Objects) → (F → ObjectId → Type 0) → Waiting → Search F → Hidden → Type 0
FollowFails objects faulty w old why = why ≢ hidden_by.Find existing.Memory
    → (IsPassed (rows_of old.source.graph) old.source.in_use w.id × IsFaultAt (objects old.source.objects.now) (faulty old.source.objects.now) w.id why)
    ⊎ ((ids : List ObjectId) × (after : Bool) × GivesParents (objects old.source.objects.now) (rows_of old.source.graph) old.source.in_use w ids after
    × ((i : ObjectId) × Contains ids i × IsRowless (rows_of old.source.graph) after i × IsFaultAt (objects old.source.objects.now) (faulty old.source.objects.now) i why))

-- what was met tells which of the ids the tips reach
pub record Decides (objects : Objects) (rows : List GraphRow) (tips ids : List ObjectId) (met : set.FinSet id_cmp) : Type 0 where
  pub sound : (history : Objects) → IsHistory objects rows history → (i : ObjectId) → set.contains met i ≡ true → Reaches (parents_of history) tips i
  pub whole : (history : Objects) → IsHistory objects rows history → (i : ObjectId) → Contains ids i → Reaches (parents_of history) tips i → set.contains met i ≡ true
  pub read : (history : Objects) → IsHistory objects rows history → (a : ObjectId) → Contains ids a → set.contains met a ≡ false
      → (i : ObjectId) → Reaches (parents_of history) tips i → row_of rows i ≡ None → IsSome (commit_at objects i)
  pub tips_read : (history : Objects) → IsHistory objects rows history → (i : ObjectId) → Contains tips i → row_of rows i ≡ None → IsSome (commit_at objects i)

-- out of memory, or a commit that the tips reach can't be read
abbrev pub SearchFails : Objects → (ObjectId → Type 0) → List GraphRow → List ObjectId → List ObjectId → Hidden → Type 0
SearchFails objects faulty rows tips ids why = why ≢ hidden_by.Find existing.Memory → IsContainedFault objects faulty rows tips ids why
