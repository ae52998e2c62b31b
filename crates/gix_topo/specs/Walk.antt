-- What a topological walk holds, as its callers see it, and what one call of it may do.
use Rattle.std.specs.Prelude.{◌≡◌, ◌≢◌, ◌⊎◌, ◌≤◌, ◌<ℤ◌, ◌≤ℤ◌, ℕ, ℤ, List, [], ◌∷◌, ◌++◌, map, drop, length, Bool, true, false, ◌||◌, Option, Some, None, Result, Ok, Err, Contains}
use Rattle.std.specs.List.{flat_map}
use Rattle.std.specs.FinMap as map_of
use Rattle.std.specs.Iterator.{Drains}
use Rattle.std.specs.FinSet as set
use Rattle.gix_hash.specs.declared.ObjectId.{ObjectId}
use Rattle.gix_object.specs.declared.Kind.TheVariants as object
use Rattle.gix_object.specs.declared.decode.Error.{Error as DecodeError}
use Rattle.gix_object.specs.declared.find.existing_iter.Error.TheVariants as existing
use Rattle.gix_hash.specs.Id.{id_cmp, kind_of, is_among}
use Rattle.gix_object.specs.Object.{Objects}
use Rattle.gix_object.specs.CommitItems.{commit_items}
use Rattle.gix_object.specs.Find.{IsExistingFault}
use Rattle.gix_commitgraph.specs.Rows.{GraphRow, row_of}
use Rattle.gix_revwalk.specs.declared.Parents.{Parents}
use Rattle.gix_revwalk.specs.declared.Parents.TheVariants as mode
use Rattle.gix_revwalk.specs.declared.Info.{Info}
use Rattle.gix_topo.specs.declared.Sorting.{Sorting}
use Rattle.gix_topo.specs.declared.Sorting.TheVariants as order
use Rattle.gix_topo.specs.declared.Error.{Error}
use Rattle.gix_topo.specs.declared.Error.TheVariants as error
use Rattle.gix_revwalk.specs.Agreeing.{IsAgreeing, IsCorrupt}
use Rattle.gix_topo.specs.Depth.{infinity, known_generation, least}
use Rattle.gix_hash.specs.Reach.{Reaches}
use Rattle.gix_revwalk.specs.Reading.{DropsRows}
use Rattle.gix_topo.specs.Reading.{Reads}
use Rattle.gix_revwalk.specs.Commits.{ReadsWhole, by_mode, walked_parents, parents_of, time_of}
use Rattle.gix_topo.specs.WalkSet.{IsInWalk, IsReady, IsChildless}
use Rattle.gix_topo.specs.TopoOrder.{Keeps, first_places, last_places, by_time}
use Rattle.gix_revwalk.specs.Infos.{IsInfo, IsRowGeneration}
use Rattle.gix_revwalk.specs.Texts.{text_parents, text_next}
use Rattle.gix_revwalk.specs.Ids.{AreDistinct}

-- what a walk goes over; none of it changes
pub record TopoPlan (F : Type 0) : Type 0 where
  pub store : F
  -- the rows handed in
  pub rows : List GraphRow
  pub parents : Parents
  pub sorting : Sorting
  pub tips : List ObjectId
  pub ends : List ObjectId

-- a ready commit, as it is to be given: with all its parents
pub record Ready : Type 0 where
  pub id : ObjectId
  pub parents : List ObjectId
  pub time : ℤ
  pub generation : Option ℕ

-- how far a walk has counted
pub record Counted : Type 0 where
  -- whether the rows are in use: they are until one proves corrupt
  pub in_use : Bool
  -- as long as they are in use, no commit of a lesser generation is read
  pub depth : ℕ
  -- the number of different commits whose parents were read
  pub expanded : ℕ

-- what a built walk holds
pub record TopoWalk (F P : Type 0) : Type 0 where
  pub plan : TopoPlan F
  pub predicate : P
  pub counted : Counted
  -- in the order in which they became it; none after a fault
  pub ready : List Ready
  pub taken : set.FinSet id_cmp

-- what a builder holds
pub record TopoBuilder (F P : Type 0) : Type 0 where
  pub plan : TopoPlan F
  pub predicate : P

abbrev pub ready_ids : List Ready → List ObjectId
ready_ids ready = map (λ r. r.id) ready

-- the generation that a row says, if there is one
abbrev pub row_generation : Option GraphRow → Option ℕ
row_generation None = None
row_generation (Some row) = Some row.generation

abbrev pub IsTaken : set.FinSet id_cmp → ObjectId → Type 0
IsTaken taken i = set.contains taken i ≡ true

-- taken, or ready
abbrev pub was_ready : {F P : Type 0} → TopoWalk F P → ObjectId → Bool
was_ready walk i = set.contains walk.taken i || is_among i (ready_ids walk.ready)

-- of the ready commits the first of greatest time, and the others in their order
pub record TakesLatest (ready : List Ready) (c : Ready) (others : List Ready) : Type 0 where
  pub before : List Ready
  pub behind : List Ready
  pub place : ready ≡ before ++ c ∷ behind
  pub left : others ≡ before ++ behind
  pub best : (other : Ready) → Contains ready other → other.time ≤ℤ c.time
  pub first : (other : Ready) → Contains before other → other.time <ℤ c.time

-- the ready commit whose turn it is, and the others in their order: the last one, or the first of greatest time
abbrev pub Chooses : Sorting → List Ready → Ready → List Ready → Type 0
Chooses order.TopoOrder ready c others = ready ≡ others ++ c ∷ []
Chooses order.DateOrder ready c others = TakesLatest ready c others

-- a read commit, with all its parents
abbrev pub IsOfInfo : Ready → Info → Type 0
IsOfInfo r info = IsInfo info r.id r.parents r.generation (Some r.time)

-- so many ids have Q
pub record IsNumberOf (Q : ObjectId → Type 0) (n : ℕ) : Type 0 where
  pub ids : List ObjectId
  pub distinct : AreDistinct ids
  pub each : (i : ObjectId) → Contains ids i → Q i
  pub all : (i : ObjectId) → Q i → Contains ids i
  pub number : length ids ≡ n

-- the least generation of tips and ends
abbrev pub first_depth : {F : Type 0} → TopoPlan F → ℕ
first_depth plan = least plan.rows infinity (plan.tips ++ plan.ends)

-- the ids that rows and the texts of stored commits name
abbrev pub named_ids : Objects → List GraphRow → List ObjectId
named_ids objects rows = map (λ row. row.id) rows ++ flat_map (λ entry. text_parents entry.0 entry.1) (map_of.entries objects)

-- the commit is stored, and its items have no fault
pub record IsCommitRead (objects : Objects) (i : ObjectId) : Type 0 where
  pub bytes : List ℕ
  pub stored : map_of.get objects i ≡ Some (record { kind = object.Commit; bytes = bytes })
  pub faultless : (e : DecodeError) → Contains (commit_items (kind_of i) bytes) (Err e) → ⊥

-- It has a row, as long as the rows are in use, or is stored as a commit whose text can be read.
abbrev pub IsKnown : Objects → List GraphRow → Bool → ObjectId → Type 0
IsKnown objects rows in_use i = ((in_use ≡ true) × (row : GraphRow) × (row_of rows i ≡ Some row)) ⊎ IsCommitRead objects i

-- the commit is stored, and its items end in this fault
abbrev pub IsTextFault : Objects → ObjectId → DecodeError → Type 0
IsTextFault objects i e =
    (bytes : List ℕ) × (map_of.get objects i ≡ Some (record { kind = object.Commit; bytes = bytes })) × Contains (commit_items (kind_of i) bytes) (Err e)

module _ {F : Type 0} (objects : F → Objects) (plan : TopoPlan F) where
  -- the parents that are walked
  abbrev pub walked_of : ObjectId → List ObjectId
  walked_of = walked_parents (objects plan.store) plan.parents

  -- the same by the texts of commits, also where they break off behind the parents
  abbrev pub text_walked : ObjectId → List ObjectId
  text_walked i = by_mode plan.parents (text_next (objects plan.store) i)

  -- tips reach it through the parents that texts name and that are walked, or ends through any that texts name
  abbrev pub IsReached : ObjectId → Type 0
  IsReached i = Reaches text_walked plan.tips i ⊎ Reaches (text_next (objects plan.store)) plan.ends i

  -- what the walk gives, by the texts alone
  abbrev pub IsTextMember : ObjectId → Type 0
  IsTextMember = IsInWalk text_walked (text_next (objects plan.store)) plan.tips plan.ends

  -- a tip that becomes ready when the walk is built, by the texts alone
  pub record IsFirstReady (i : ObjectId) : Type 0 where
    pub tip : Contains plan.tips i
    pub childless : IsChildless text_walked IsTextMember i

  -- a parent of this commit that becomes ready when the commit is taken after these, by the texts alone
  pub record IsNextReady (taken : set.FinSet id_cmp) (c i : ObjectId) : Type 0 where
    pub named : Contains (text_walked c) i
    pub ready : IsReady text_walked IsTextMember (IsTaken (set.insert taken c)) i

  -- a commit of the walk that isn't among these, by the texts alone
  pub record IsLeft (taken : set.FinSet id_cmp) (i : ObjectId) : Type 0 where
    pub member : IsTextMember i
    pub untaken : IsTaken taken i → ⊥

  -- it is reached so, or it is a parent, walked or not, of a commit that becomes ready
  abbrev pub IsLookedUp : (ObjectId → Type 0) → ObjectId → Type 0
  IsLookedUp BecomesReady i = IsReached i ⊎ ((c : ObjectId) × BecomesReady c × Contains (text_next (objects plan.store) c) i)

  -- what the walk gives
  abbrev pub IsMember : ObjectId → Type 0
  IsMember = IsInWalk walked_of (parents_of (objects plan.store)) plan.tips plan.ends

  -- a ready commit is as its text and the rows say
  pub record IsStored (in_use : Bool) (r : Ready) : Type 0 where
    pub parents : r.parents ≡ text_next (objects plan.store) r.id
    pub time : r.time ≡ time_of (objects plan.store) r.id
    -- none, or the row's; and the row's as long as the rows are in use
    pub by_row : IsRowGeneration plan.rows r.id r.generation
    pub told : in_use ≡ true → r.generation ≡ row_generation (row_of plan.rows r.id)

  -- reached, and not below the depth
  pub record IsInDepth (depth : ℕ) (i : ObjectId) : Type 0 where
    pub reached : IsReached i
    pub high : depth ≤ known_generation plan.rows i

  -- a corrupt row of a commit that is counted: for it the rows are dropped
  pub record IsBrokenRow (depth : ℕ) : Type 0 where
    pub id : ObjectId
    pub row : GraphRow
    pub in_depth : IsInDepth depth id
    pub by_row : row_of plan.rows id ≡ Some row
    pub corrupt : IsCorrupt row

  -- The number of commits whose parents were read is exact: down to the depth as long as the rows are in use, and of all once they
  -- are dropped. They are dropped exactly for a corrupt row.
  pub record IsCounting (counted : Counted) : Type 0 where
    pub exact : counted.in_use ≡ true → IsNumberOf (IsInDepth counted.depth) counted.expanded
    pub all : counted.in_use ≡ false → IsNumberOf IsReached counted.expanded
    pub dropped : counted.in_use ≡ false → IsBrokenRow counted.depth
    pub whole : counted.in_use ≡ true → IsBrokenRow counted.depth → ⊥

  -- the rows are dropped for the corrupt row of this commit, which tips or ends reach if the rows agree
  pub record DropsBy : Type 0 where
    pub id : ObjectId
    pub corrupt : DropsRows plan.rows id
    pub reached : IsAgreeing (objects plan.store) plan.rows → IsReached id

  -- a parent that isn't the first, of a commit that becomes ready, where only first parents are walked
  pub record IsOtherParent (BecomesReady : ObjectId → Type 0) (i : ObjectId) : Type 0 where
    pub unwalked : plan.parents ≡ mode.First
    pub child : ObjectId
    pub ready : BecomesReady child
    pub named : Contains (drop 1 (text_next (objects plan.store) child)) i

  -- `build` has read all that is walked: without rows, a fault found later is that of another parent, or the store fails
  abbrev pub IsLate : (ObjectId → Type 0) → Error → Type 0
  IsLate BecomesReady error.MissingIndegreeUnexpected = Unit {0}
  IsLate BecomesReady error.MissingStateUnexpected = ⊥
  IsLate BecomesReady (error.Find existing.Store) = Unit {0}
  IsLate BecomesReady (error.Find (existing.NotFound oid)) = plan.rows ≡ [] → IsOtherParent BecomesReady oid
  IsLate BecomesReady (error.Find (existing.ObjectKind oid expected actual)) = plan.rows ≡ [] → IsOtherParent BecomesReady oid
  IsLate BecomesReady (error.Find existing.Memory) = ⊥
  IsLate BecomesReady (error.ObjectDecode e) = plan.rows ≡ [] → (i : ObjectId) × IsOtherParent BecomesReady i × IsTextFault (objects plan.store) i e
  IsLate BecomesReady error.Memory = Unit {0}

module _ {F : Type 0} (objects : F → Objects) (faulty : F → ObjectId → Type 0) (plan : TopoPlan F) where
  -- how a ready commit was read: by its row, as long as the rows are in use; rows that were dropped aren't read
  pub record IsFound (was_in_use in_use : Bool) (r : Ready) : Type 0 where
    pub info : Info
    pub before : Bool
    pub after : Bool
    pub reads : Reads (objects plan.store) (faulty plan.store) plan.rows before r.id (Ok info) after
    pub is : IsOfInfo r info
    pub earlier : before ≡ true → was_in_use ≡ true
    pub later : in_use ≡ true → after ≡ true
    -- and each of its parents was known, walked or not
    pub known : (p : ObjectId) → Contains r.parents p → IsKnown (objects plan.store) plan.rows after p

  -- the rows agree, and all that is walked reads whole: what tips reach, and what ends reach; and so do all parents of what tips reach,
  -- also the parents that aren't walked
  pub record IsSound : Type 0 where
    pub agreeing : IsAgreeing (objects plan.store) plan.rows
    pub tips_whole : (i : ObjectId) → Reaches (walked_of objects plan) plan.tips i → ReadsWhole (objects plan.store) i
    pub parents_whole : (c i : ObjectId) → Reaches (walked_of objects plan) plan.tips c → Contains (parents_of (objects plan.store) c) i
        → ReadsWhole (objects plan.store) i
    pub ends_whole : (i : ObjectId) → Reaches (parents_of (objects plan.store)) plan.ends i → ReadsWhole (objects plan.store) i

  -- when a commit that the store can't give is met
  pub record IsMetFault (BecomesReady : ObjectId → Type 0) (i : ObjectId) (e : Error) : Type 0 where
    -- with rows that agree it is looked up
    pub looked_up : IsAgreeing (objects plan.store) plan.rows → IsLookedUp objects plan BecomesReady i
    -- Whatever the store and the rows, one with a row is read from the store only where the rows were dropped, or where the row
    -- says no finite generation.
    pub unrowed : (known_generation plan.rows i ≡ infinity) ⊎ DropsBy objects plan
    -- over a sound plan it is the store that fails
    pub store_fails : IsSound → e ≡ error.Find existing.Store

  -- when each fault comes, where these become ready
  abbrev pub IsFault : (ObjectId → Type 0) → Error → Type 0
  IsFault BecomesReady error.MissingIndegreeUnexpected = IsAgreeing (objects plan.store) plan.rows → ⊥
  IsFault BecomesReady error.MissingStateUnexpected = ⊥
  IsFault BecomesReady (error.Find e) =
      (i : ObjectId) × IsExistingFault (objects plan.store) (faulty plan.store) i object.Commit e × IsMetFault BecomesReady i (error.Find e)
  IsFault BecomesReady (error.ObjectDecode e) = (i : ObjectId) × IsTextFault (objects plan.store) i e × IsMetFault BecomesReady i (error.ObjectDecode e)
  IsFault BecomesReady error.Memory = Unit {0}

  -- when each fault of `build` comes: no commit is taken yet, so no count is missing
  abbrev pub IsBuildFault : Error → Type 0
  IsBuildFault e = (e ≢ error.MissingIndegreeUnexpected) × IsFault (IsFirstReady objects plan) e

module _ {F P : Type 0} (objects : F → Objects) (faulty : F → ObjectId → Type 0) (answers : P → ObjectId → Bool → P → Type 0) where
  -- the ready tips, where the rows agree: the tips without children, by rising time
  pub record StartsWith (plan : TopoPlan F) (ready : List Ready) : Type 0 where
    pub childless : List ObjectId
    pub starts : List Ready
    pub kept : Keeps (IsChildless (text_walked objects plan) (IsTextMember objects plan)) (first_places plan.tips) childless
    pub sorted : ready_ids starts ≡ by_time (time_of (objects plan.store)) childless
    pub holds : ready ≡ starts

  -- a walk that was built, before its first call
  pub record IsStarted (walk : TopoWalk F P) : Type 0 where
    pub untaken : walk.taken ≡ set.empty
    pub distinct : AreDistinct (ready_ids walk.ready)
    pub tips : (i : ObjectId) → Contains (ready_ids walk.ready) i → Contains walk.plan.tips i
    pub starts : IsAgreeing (objects walk.plan.store) walk.plan.rows → StartsWith walk.plan walk.ready
    -- each was read, whatever the store and the rows
    pub found : (r : Ready) → Contains walk.ready r → IsFound objects faulty walk.plan true walk.counted.in_use r
    pub stored : IsAgreeing (objects walk.plan.store) walk.plan.rows → (r : Ready) → Contains walk.ready r → IsStored objects walk.plan walk.counted.in_use r
    pub depth : walk.counted.depth ≡ first_depth walk.plan
    pub counting : IsAgreeing (objects walk.plan.store) walk.plan.rows → IsCounting objects walk.plan walk.counted
    -- without rows, all that is reached was read
    pub read : walk.plan.rows ≡ [] → (i : ObjectId) → IsReached objects walk.plan i → IsCommitRead (objects walk.plan.store) i
    -- where the rows agree, each id that is reached has a row, or was read
    pub known : IsAgreeing (objects walk.plan.store) walk.plan.rows → (i : ObjectId) → IsReached objects walk.plan i
        → IsKnown (objects walk.plan.store) walk.plan.rows true i

  -- the walk is this builder's
  pub record IsOf (builder : TopoBuilder F P) (walk : TopoWalk F P) : Type 0 where
    pub plan : walk.plan ≡ builder.plan
    pub predicate : walk.predicate ≡ builder.predicate

  -- what `build` answers
  abbrev pub Built : TopoBuilder F P → Result (TopoWalk F P) Error → Type 0
  Built builder (Ok walk) = IsOf builder walk × IsStarted walk
  Built builder (Err e) = IsBuildFault objects faulty builder.plan e

  -- the commits that a taken one makes ready
  pub record Adds (old : TopoWalk F P) (c : Ready) (counted : Counted) (added : List Ready) : Type 0 where
    -- each is new
    pub distinct : AreDistinct (ready_ids added)
    pub unmade : (i : ObjectId) → Contains (ready_ids added) i → was_ready old i ≡ false
    pub named : (i : ObjectId) → Contains (ready_ids added) i → is_among i (named_ids (objects old.plan.store) old.plan.rows) ≡ true
    -- and was read, whatever the store and the rows
    pub found : (r : Ready) → Contains added r → IsFound objects faulty old.plan old.counted.in_use counted.in_use r
    -- where the rows agree: the walked parents that became ready, each at its last place
    pub became :
        IsAgreeing (objects old.plan.store) old.plan.rows
        → Keeps (IsReady (text_walked objects old.plan) (IsTextMember objects old.plan) (IsTaken (set.insert old.taken c.id)))
        (last_places (text_walked objects old.plan c.id)) (ready_ids added)
    pub stored : IsAgreeing (objects old.plan.store) old.plan.rows → (r : Ready) → Contains added r → IsStored objects old.plan counted.in_use r
    -- dropped rows don't come back
    pub stands : counted.in_use ≡ true → old.counted.in_use ≡ true
    -- lowered to the least generation of the walked parents
    pub depth : counted.depth ≡ least old.plan.rows old.counted.depth (by_mode old.plan.parents c.parents)
    pub counting : IsAgreeing (objects old.plan.store) old.plan.rows → IsCounting objects old.plan counted

  -- a ready commit is taken
  pub record Takes (old : TopoWalk F P) (c : Ready) (counted : Counted) (ready : List Ready) : Type 0 where
    pub others : List Ready
    pub added : List Ready
    pub chosen : Chooses old.plan.sorting old.ready c others
    pub adds : Adds old c counted added
    pub holds : ready ≡ others ++ added

  -- the walk after that, and after the predicate was asked about it
  abbrev pub after : TopoWalk F P → Ready → Counted → List Ready → P → TopoWalk F P
  after old c counted ready predicate = record old { predicate = predicate; counted = counted; ready = ready; taken = set.insert old.taken c.id }

  -- one call of `next`: refused commits are taken too, and the call goes on
  pub data Next : TopoWalk F P → Option (Result Info Error) → TopoWalk F P → Type 0 where
    ended : {old : TopoWalk F P} → old.ready ≡ [] → Next old None old
    given : {old : TopoWalk F P} {c : Ready} {counted : Counted} {ready : List Ready} {predicate : P} {info : Info} → Takes old c counted ready
        → answers old.predicate c.id true predicate → IsInfo info c.id c.parents c.generation (Some c.time)
        → Next old (Some (Ok info)) (after old c counted ready predicate)
    refused : {old new : TopoWalk F P} {c : Ready} {counted : Counted} {ready : List Ready} {predicate : P} {answer : Option (Result Info Error)}
        → Takes old c counted ready → answers old.predicate c.id false predicate → Next (after old c counted ready predicate) answer new → Next old answer new
    failed : {old : TopoWalk F P} (c : Ready) (others : List Ready) {counted : Counted} {taken : set.FinSet id_cmp} {e : Error}
        → Chooses old.plan.sorting old.ready c others → IsFault objects faulty old.plan (IsNextReady objects old.plan old.taken c.id) e
        → IsLate objects old.plan (IsNextReady objects old.plan old.taken c.id) e
        → Next old (Some (Err e)) (record old { counted = counted; ready = []; taken = taken })

-- a fresh builder over a store, with these tips
abbrev pub fresh_builder : {F P : Type 0} → F → P → List ObjectId → TopoBuilder F P
fresh_builder store predicate tips =
    record { plan = record { store = store; rows = []; parents = mode.All; sorting = order.DateOrder; tips = tips; ends = [] }; predicate = predicate }

-- and with the ends that an iterator gives, if there is one
abbrev pub IsFromEnds : {F P E I : Type 0} → (E → I → Type 0) → (I → Option ObjectId → I → Type 0) → F → P → List ObjectId → Option E → TopoBuilder F P → Type 0
IsFromEnds gives next store predicate tips None builder = builder ≡ fresh_builder store predicate tips
IsFromEnds {I = I} gives next store predicate tips (Some ends) builder =
    (it : I) × (ids : List ObjectId) × gives ends it × Drains next it ids
    × (builder ≡ (let b = fresh_builder store predicate tips in record b { plan = record b.plan { ends = ids } }))
