-- How two searches go on: a step reads the parents of a queued id of greatest generation.
use Rattle.std.specs.Prelude.{◌≡◌, ◌⊎◌, ◌<◌, ◌+◌, ℕ, nat_le, List, [], ◌∷◌, Bool, true, false, not, ◌||◌, cond, Some, Ok, Contains, IsPermutation, slice_get}
use Rattle.gix_hash.specs.declared.ObjectId.{ObjectId}
use Rattle.gix_object.specs.Object.{Objects}
use Rattle.gix_commitgraph.specs.Rows.{GraphRow}
use Rattle.gix_revwalk.specs.declared.Info.{Info}
use Rattle.gix_revwalk.specs.declared.Parents.{Parents}
use Rattle.gix_revwalk.specs.declared.Parents.TheVariants as mode
use Rattle.gix_topo.specs.declared.Error.{Error}
use Rattle.gix_frontier.specs.declared.Side.{Side}
use Rattle.gix_frontier.specs.declared.Side.TheVariants.{Tips, Ends}
use Rattle.gix_frontier.specs.Inside.Waiting.{Waiting}
use Rattle.gix_frontier.specs.declared.Frontier.{Frontier}
use Rattle.gix_topo.specs.declared.counting.Counting.{Counting}
use Rattle.gix_topo.specs.Depth.{known_generation}
use Rattle.gix_frontier.specs.Inside.Frontier.{reached, is_done, MeetsParent, Finishes}
use Rattle.gix_revwalk.specs.Commits.{by_mode}
use Rattle.gix_revwalk.specs.Reading.{rows_of}
use Rattle.gix_topo.specs.Reading.{Reads, ReadFails}
use Rattle.gix_topo.specs.TopoOrder.{last_places}

-- the rows were dropped, or the greatest generation of those that wait isn't below the depth
abbrev pub is_pending : Bool → ℕ → List (ℕ × Waiting) → Bool
is_pending in_use depth [] = false
is_pending in_use depth (entry ∷ queue) = not in_use || nat_le depth entry.0

-- nothing waits, or the rows are in use and all that waits is below the depth
abbrev pub IsRested : Bool → ℕ → List (ℕ × Waiting) → Type 0
IsRested in_use depth queue = (queue ≡ []) ⊎ ((in_use ≡ true) × ((entry : ℕ × Waiting) → Contains queue entry → entry.0 < depth))

-- by which parents a side goes
abbrev pub side_mode : Side → Parents → Parents
side_mode Tips parents = parents
side_mode Ends parents = mode.All

-- these parents are met, in order
pub data Follows (rows : List GraphRow) (side : Side) : Frontier → List ObjectId → Frontier → Type 0 where
  none : {old : Frontier} → Follows rows side old [] old
  more : {old mid new : Frontier} {i : ObjectId} {ids : List ObjectId} → MeetsParent side old (known_generation rows i) i mid → Follows rows side mid ids new → Follows rows side old (i ∷ ids) new

module _ {F : Type 0} (objects : F → Objects) (faulty : F → ObjectId → Type 0) where
  -- what no step changes
  pub record IsSamePlan (old new : Counting F) : Type 0 where
    pub find : new.reader.find ≡ old.reader.find
    pub graph : new.reader.graph ≡ old.reader.graph
    pub parents : new.parents ≡ old.parents
    pub depth : new.depth ≡ old.depth

  -- the parents of a commit that a side goes to are read
  pub record ReadsParents (old : Counting F) (i : ObjectId) (side : Side) (ids : List ObjectId) (in_use : Bool) : Type 0 where
    pub info : Info
    pub reads : Reads (objects old.reader.find) (faulty old.reader.find) (rows_of old.reader.graph) old.reader.in_use i (Ok info) in_use
    pub named : ids ≡ last_places (by_mode (side_mode side old.parents) info.parent_ids.items)

  -- a queued id is read, and its parents are met
  pub record Steps (old new : Counting F) : Type 0 where
    pub same : IsSamePlan old new
    pub entry : ℕ × Waiting
    pub left : List (ℕ × Waiting)
    pub first : slice_get old.frontier.queue 0 ≡ Some entry
    pub taken_out : IsPermutation old.frontier.queue (entry ∷ left)
    pub ids : List ObjectId
    pub reads : ReadsParents old entry.1.id entry.1.side ids new.reader.in_use
    pub followed : Frontier
    pub follows : Follows (rows_of old.reader.graph) entry.1.side (record old.frontier { queue = left }) ids followed
    pub finishes : Finishes followed entry.1.id entry.1.side new.frontier
    pub expanded : new.expanded ≡ old.expanded + cond (is_done (reached old.frontier.known Tips entry.1.id) || is_done (reached old.frontier.known Ends entry.1.id)) 0 1

  -- why a step fails
  pub record IsStepFault (old : Counting F) (e : Error) : Type 0 where
    pub entry : ℕ × Waiting
    pub queued : Contains old.frontier.queue entry
    pub fault : ReadFails (objects old.reader.find) (faulty old.reader.find) (rows_of old.reader.graph) old.reader.in_use entry.1.id e

  -- steps, as long as there is need
  pub data Explores (old : Counting F) : Counting F → Type 0 where
    itself : Explores old old
    further : {mid new : Counting F} → Explores old mid → is_pending mid.reader.in_use mid.depth mid.frontier.queue ≡ true → Steps mid new → Explores old new

  -- why exploring fails: a step does, after others
  pub record IsExploringFault (old : Counting F) (e : Error) : Type 0 where
    pub so_far : Counting F
    pub explored : Explores old so_far
    pub fault : IsStepFault so_far e
