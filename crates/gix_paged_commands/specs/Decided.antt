-- What shows that an answer doesn't hang on rows that weren't read.
use Rattle.std.specs.Prelude.{◌⊎◌, ◌+◌, length, None, Some, ◌≡◌, ◌≢◌, ℕ, List, [], ◌∷◌, Bool, true, false, Option, Result, Ok, Err, Contains}
use Rattle.std.specs.Iterator.{Yields}
use Rattle.gix_commands.specs.TopoWalked.{IsBuiltFrom}
use Rattle.gix_commands.specs.TopoWalked.{Walk as TopoWalk, Answers as TopoAnswers}
use Rattle.gix_commands.specs.Walked.{Answers, Any, Ends, IsWalkFault, StartsFrom, Walk}
use Rattle.gix_commitgraph.specs.Rows.{GraphRow}
use Rattle.gix_hash.specs.declared.ObjectId.{ObjectId}
use Rattle.gix_merge_base.specs.Bases.{FindsBases}
use Rattle.gix_object.specs.Object.{Objects}
use Rattle.gix_revwalk.specs.declared.Info.{Info}
use Rattle.gix_revwalk.specs.declared.Parents.TheVariants as mode
use Rattle.gix_simple.specs.declared.Sorting.TheVariants as sorting
use Rattle.gix_topo.specs.declared.Sorting.{Sorting as TopoSorting}
use Rattle.gix_revwalk.specs.Infos.{given}
use Rattle.gix_words.specs.declared.fault.Fault.{Fault}
use Rattle.gix_words.specs.declared.words.Merges.TheVariants as merges
use Rattle.gix_words.specs.declared.words.Order.{Order}
use Rattle.gix_words.specs.declared.words.Order.TheVariants.{Simple, Topo}
use Rattle.gix_words.specs.declared.words.Shown.{Shown}
use Rattle.gix_words.specs.Words.{Ahead, Bases, Commits, Contained, Containing, Files, Request}

abbrev pub AreAllAbove : (Above : ObjectId → Type 0) → List ObjectId → Type 0
AreAllAbove Above ids = (i : ObjectId) → Contains ids i → Above i

-- How a walk ended that was to give what is above alone: it did, and has no more commits. Nothing is said if it gave another, or failed.
abbrev pub GivesAbove :
    {W E : Type 0} → (Above : ObjectId → Type 0) → (Steps : W → Option (Result Info E) → W → Type 0) → (Tells : E → Fault → Type 0) → W → Result Bool Fault → Type 0
GivesAbove Above Steps Tells walk (Ok true) =
    (infos : List Info) × Ends Steps Tells Any walk infos (Ok tt) × ((info : Info) → Contains infos info → Above info.id)
GivesAbove Above Steps Tells walk (Ok false) = Unit {0}
GivesAbove Above Steps Tells walk (Err e) = Unit {0}

-- How a walk began that was to give so many commits whose parents are above: it did. Nothing is said if it gave another, or failed.
abbrev pub GivesFirst :
    {W E : Type 0} → (Above : ObjectId → Type 0) → (Steps : W → Option (Result Info E) → W → Type 0) → W → (count : ℕ) → Result Bool Fault → Type 0
GivesFirst Above Steps walk count (Ok true) = (infos : List Info) × (last : _) × Yields Steps walk (given infos) last × (length infos ≡ count)
    × ((info : Info) → Contains infos info → AreAllAbove Above info.parent_ids.items)
GivesFirst Above Steps walk count (Ok false) = Unit {0}
GivesFirst Above Steps walk count (Err e) = Unit {0}

module _ (Above : ObjectId → Type 0) (objects : Objects) (rows : List GraphRow) where
  -- a walk through what tips reach and hidden ones don't was drawn to its end, and gave what is above alone
  pub record DrawsAbove (tips hidden : List ObjectId) : Type 0 where
    pub some_tips : tips ≢ []
    pub some_hidden : hidden ≢ []
    pub walk : Walk
    pub starts : StartsFrom objects rows mode.All sorting.BreadthFirst tips hidden walk
    pub infos : List Info
    pub ends : Ends Answers IsWalkFault Any walk infos (Ok tt)
    pub above : (info : Info) → Contains infos info → Above info.id

  -- A walk of `topo` or `date` gave as many commits as are skipped and listed. Its tips are above, and so are the parents of these commits.
  pub record FirstAbove (by : TopoSorting) (shown : Shown) (tips hidden : List ObjectId) : Type 0 where
    pub some_tips : tips ≢ []
    pub tips_above : AreAllAbove Above tips
    pub always : shown.until ≡ None
    pub any : shown.merges ≡ merges.Any
    pub most : ℕ
    pub limit : shown.limit ≡ Some most
    pub walk : TopoWalk
    pub built : IsBuiltFrom objects rows mode.All by tips hidden (Ok walk)
    pub infos : List Info
    pub last : TopoWalk
    pub gave : Yields TopoAnswers walk (given infos) last
    pub number : length infos ≡ shown.skip + most
    pub parents_above : (info : Info) → Contains infos info → AreAllAbove Above info.parent_ids.items

  abbrev pub BeginsBy : Order → Shown → (tips hidden : List ObjectId) → Type 0
  BeginsBy (Simple parents by) shown tips hidden = ⊥
  BeginsBy (Topo mode.All by) shown tips hidden = FirstAbove by shown tips hidden
  BeginsBy (Topo mode.First by) shown tips hidden = ⊥

  -- the best common ancestors were found, and are above
  abbrev pub AreBasesAbove : ObjectId → List ObjectId → Type 0
  AreBasesAbove one others = (bases : List ObjectId) × FindsBases objects rows one others bases × AreAllAbove Above bases

  -- what a request lists, counts or asks about is above
  abbrev pub DecidesRequest : Request → Type 0
  DecidesRequest (Commits order shown tips hidden) = DrawsAbove tips hidden ⊎ BeginsBy order shown tips hidden
  DecidesRequest (Files shown tree) = ⊥
  DecidesRequest (Ahead one other) = DrawsAbove (one ∷ []) (other ∷ []) × DrawsAbove (other ∷ []) (one ∷ [])
  DecidesRequest (Contained tip ids) = AreAllAbove Above ids
  DecidesRequest (Containing target tips) = Above target
  DecidesRequest (Bases one others) = DrawsAbove (one ∷ []) others × AreBasesAbove one others
