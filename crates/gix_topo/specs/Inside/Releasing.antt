-- How the parents of a taken commit become ready.
use Rattle.std.specs.Prelude.{◌≡◌, ◌⊎◌, ◌+◌, ℕ, List, [], ◌∷◌, ◌++◌, Bool, true, false, not, ◌&&◌, Some, Ok, Contains}
use Rattle.std.specs.FinSet as set
use Rattle.std.specs.FinMap as map_of
use Rattle.gix_hash.specs.declared.ObjectId.{ObjectId}
use Rattle.gix_hash.specs.Id.{id_cmp, is_among}
use Rattle.gix_object.specs.Object.{Objects}
use Rattle.gix_commitgraph.specs.Rows.{GraphRow}
use Rattle.gix_revwalk.specs.declared.Info.{Info}
use Rattle.gix_topo.specs.declared.Error.{Error}
use Rattle.gix_topo.specs.declared.Error.TheVariants as error
use Rattle.gix_frontier.specs.declared.Frontier.{Frontier}
use Rattle.gix_revwalk.specs.declared.Parents.{Parents}
use Rattle.gix_topo.specs.Inside.Reader.{Reader}
use Rattle.gix_topo.specs.declared.counting.Counting.{Counting}
use Rattle.gix_topo.specs.declared.walk.Walk.{Walk}
use Rattle.gix_topo.specs.Depth.{least}
use Rattle.gix_topo.specs.Inside.Exploring.{Explores, IsRested, IsExploringFault}
use Rattle.gix_revwalk.specs.Commits.{by_mode}
use Rattle.gix_topo.specs.TopoOrder.{last_places}
use Rattle.gix_frontier.specs.Inside.Known.{Known}
use Rattle.gix_frontier.specs.Inside.Frontier.{IsDone, known_of, is_due, MarksReady, Uncounts}
use Rattle.gix_revwalk.specs.Reading.{rows_of}
use Rattle.gix_topo.specs.Reading.{Reads, ReadFails, LookUpFails}
use Rattle.gix_topo.specs.declared.Sorting.{Sorting}
use Rattle.gix_topo.specs.Walk.{TopoPlan, TopoWalk, Counted, Ready, ready_ids, IsKnown, IsOfInfo}

-- what a walk over a reader goes over
abbrev pub plan_over : {F : Type 0} → Reader F → Parents → Sorting → List ObjectId → List ObjectId → TopoPlan F
plan_over reader parents sorting tips ends = record { store = reader.find; rows = rows_of reader.graph; parents = parents; sorting = sorting; tips = tips; ends = ends }

abbrev pub plan_by : {F : Type 0} → Counting F → Sorting → List ObjectId → List ObjectId → TopoPlan F
plan_by c sorting tips ends = plan_over c.reader c.parents sorting tips ends

abbrev pub plan_of : {F : Type 0} → Walk F → TopoPlan F
plan_of w = plan_by w.counting w.ready.sorting w.tips.items w.ends.items

abbrev pub counted_by : {F : Type 0} → Counting F → Counted
counted_by c = record { in_use = c.reader.in_use; depth = c.depth; expanded = c.expanded }

-- the taken commits: those that were ready once, and aren't now
unfoldable pub taken_in : map_of.FinMap id_cmp Known → List Ready → set.FinSet id_cmp
taken_in known ready = set.retain (set.from_list (map_of.keys known)) (λ i. (known_of known i).was_ready && not (is_among i (ready_ids ready)))

abbrev pub taken_of : {F : Type 0} → Walk F → set.FinSet id_cmp
taken_of w = taken_in w.counting.frontier.known w.ready.commits

-- what a walk holds, with a predicate
abbrev pub walk_of : {F P : Type 0} → Walk F → P → TopoWalk F P
walk_of w predicate = record { plan = plan_of w; predicate = predicate; counted = counted_by w.counting; ready = w.ready.commits; taken = taken_of w }

-- what becoming ready leaves as it is
pub record IsSameWalk {F : Type 0} (old new : Walk F) : Type 0 where
  pub plan : plan_of new ≡ plan_of old
  pub depth : new.counting.depth ≡ old.counting.depth
  pub expanded : new.counting.expanded ≡ old.counting.expanded
  pub queue : new.counting.frontier.queue ≡ old.counting.frontier.queue

-- what is known: an id that a search has read, as long as the rows are in use, or one with a row, or one that can be read
abbrev pub LooksUpParent : Objects → List GraphRow → Bool → Frontier → ObjectId → Type 0
LooksUpParent objects rows in_use f i = ((in_use ≡ true) × IsDone f i) ⊎ IsKnown objects rows in_use i

-- the same of all of these ids
abbrev pub LooksUpAll : Objects → List GraphRow → Bool → Frontier → List ObjectId → Type 0
LooksUpAll objects rows in_use f ids = (p : ObjectId) → Contains ids p → LooksUpParent objects rows in_use f p

-- why one of these ids can't be looked up
abbrev pub FailsAmong : Objects → (ObjectId → Type 0) → List GraphRow → Bool → List ObjectId → Error → Type 0
FailsAmong objects faulty rows in_use ids e = (p : ObjectId) × Contains ids p × LookUpFails objects faulty rows in_use p e

-- a commit that is given with a generation has parents that are known
abbrev pub HasRowedParents : Objects → List GraphRow → Bool → Info → Type 0
HasRowedParents objects rows in_use info = (generation : ℕ) → info.generation ≡ Some generation
    → (p : ObjectId) → Contains info.parent_ids.items p → IsKnown objects rows in_use p

module _ {F : Type 0} (objects : F → Objects) (faulty : F → ObjectId → Type 0) where
  -- a commit is read, and becomes ready
  pub record Pushes (old : Walk F) (i : ObjectId) (r : Ready) (new : Walk F) : Type 0 where
    pub same : IsSameWalk old new
    pub id : r.id ≡ i
    pub info : Info
    pub reads : Reads (objects old.counting.reader.find) (faulty old.counting.reader.find) (rows_of old.counting.reader.graph) old.counting.reader.in_use i (Ok info) new.counting.reader.in_use
    pub is : IsOfInfo r info
    pub known : (p : ObjectId) → Contains info.parent_ids.items p → LooksUpParent (objects old.counting.reader.find) (rows_of old.counting.reader.graph) new.counting.reader.in_use old.counting.frontier p
    pub made : MarksReady old.counting.frontier i new.counting.frontier
    pub holds : new.ready.commits ≡ old.ready.commits ++ r ∷ []

  -- why a commit can't become ready: it, or a parent of it, can't be read
  pub data IsPushFault (old : Walk F) (i : ObjectId) (e : Error) : Type 0 where
    itself : ReadFails (objects old.counting.reader.find) (faulty old.counting.reader.find) (rows_of old.counting.reader.graph) old.counting.reader.in_use i e → IsPushFault old i e
    parent : {info : Info} {in_use : Bool} {p : ObjectId} → Reads (objects old.counting.reader.find) (faulty old.counting.reader.find) (rows_of old.counting.reader.graph) old.counting.reader.in_use i (Ok info) in_use → Contains info.parent_ids.items p → LookUpFails (objects old.counting.reader.find) (faulty old.counting.reader.find) (rows_of old.counting.reader.graph) in_use p e → IsPushFault old i e

  abbrev pub with_frontier : Walk F → Frontier → Walk F
  with_frontier old f = record old { counting = record old.counting { frontier = f } }

  -- a parent has a child less, and becomes ready where that was the last one
  pub data Releases (old : Walk F) (i : ObjectId) : List Ready → Walk F → Type 0 where
    waits : {f : Frontier} (n : ℕ) → (known_of old.counting.frontier.known i).indegree ≡ n + 1 → Uncounts old.counting.frontier i f → is_due n (known_of f.known i) ≡ false → Releases old i [] (with_frontier old f)
    frees : {f : Frontier} {r : Ready} {new : Walk F} (n : ℕ) → (known_of old.counting.frontier.known i).indegree ≡ n + 1 → Uncounts old.counting.frontier i f → is_due n (known_of f.known i) ≡ true → Pushes (with_frontier old f) i r new → Releases old i (r ∷ []) new

  -- why that fails: no child was counted, or the commit can't become ready
  pub data IsReleaseFault (old : Walk F) (i : ObjectId) : Error → Type 0 where
    uncounted : (known_of old.counting.frontier.known i).indegree ≡ 0 → IsReleaseFault old i error.MissingIndegreeUnexpected
    unread : {f : Frontier} {e : Error} (n : ℕ) → (known_of old.counting.frontier.known i).indegree ≡ n + 1 → Uncounts old.counting.frontier i f → is_due n (known_of f.known i) ≡ true → IsPushFault (with_frontier old f) i e → IsReleaseFault old i e
    no_memory : IsReleaseFault old i error.Memory

  -- each of these parents, in order, and the commits that became ready
  pub data ReleasesAll : Walk F → List ObjectId → List Ready → Walk F → Type 0 where
    none : {old : Walk F} → ReleasesAll old [] [] old
    more : {old mid new : Walk F} {i : ObjectId} {ids : List ObjectId} {first others : List Ready} → Releases old i first mid → ReleasesAll mid ids others new → ReleasesAll old (i ∷ ids) (first ++ others) new

  -- one of them fails, after those before it
  pub data IsFaultAmong : Walk F → List ObjectId → Error → Type 0 where
    here : {old : Walk F} {i : ObjectId} {ids : List ObjectId} {e : Error} → IsReleaseFault old i e → IsFaultAmong old (i ∷ ids) e
    later : {old mid : Walk F} {i : ObjectId} {ids : List ObjectId} {first : List Ready} {e : Error} → Releases old i first mid → IsFaultAmong mid ids e → IsFaultAmong old (i ∷ ids) e

  -- the searches with a depth lowered to that of some parents
  abbrev pub lowered : Walk F → Ready → Counting F
  lowered old r = record old.counting { depth = least (rows_of old.counting.reader.graph) old.counting.depth (by_mode old.counting.parents r.parents) }

  abbrev pub with_counting : Walk F → Counting F → Walk F
  with_counting old counting = record old { counting = counting }

  -- the next ready commit is taken
  pub record TakesOne (old : Walk F) (r : Ready) (added : List Ready) (new : Walk F) : Type 0 where
    pub explored : Counting F
    pub explores : Explores objects faulty (lowered old r) explored
    pub rested : IsRested explored.reader.in_use explored.depth explored.frontier.queue
    pub releases : ReleasesAll (with_counting old explored) (last_places (by_mode old.counting.parents r.parents)) added new

  -- why that fails
  pub data IsTakingFault (old : Walk F) (r : Ready) (e : Error) : Type 0 where
    exploring : IsExploringFault objects faulty (lowered old r) e → IsTakingFault old r e
    releasing : {explored : Counting F} → Explores objects faulty (lowered old r) explored → IsRested explored.reader.in_use explored.depth explored.frontier.queue → IsFaultAmong (with_counting old explored) (last_places (by_mode old.counting.parents r.parents)) e → IsTakingFault old r e
    short : e ≡ error.Memory → IsTakingFault old r e
