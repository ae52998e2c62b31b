-- What the calls make of a walk that choose its order.
use Rattle.std.specs.Prelude.{◌≡◌, ℤ, List, [], ◌∷◌, ◌++◌, map, filter, Bool, true, false, not, ◌&&◌, ◌||◌, Option, None, Result, Ok, Err, All, IsSome}
use Rattle.std.specs.FinSet as set
use Rattle.gix_hash.specs.declared.ObjectId.{ObjectId}
use Rattle.gix_hash.specs.Id.{is_among}
use Rattle.gix_object.specs.Object.{Objects}
use Rattle.gix_commitgraph.specs.Rows.{GraphRow}
use Rattle.gix_revwalk.specs.declared.Parents.{Parents}
use Rattle.gix_revwalk.specs.declared.Parents.TheVariants as mode
use Rattle.gix_revwalk.specs.Pending.{Pending}
use Rattle.gix_simple.specs.declared.Error.{Error}
use Rattle.gix_simple.specs.declared.Error.TheVariants as error
use Rattle.gix_simple.specs.declared.Sorting.{Sorting}
use Rattle.gix_simple.specs.declared.Sorting.TheVariants as sorting
use Rattle.gix_paint.specs.declared.Hidden.TheVariants as hidden_by
use Rattle.gix_revwalk.specs.Commits.{commit_at, time_of, HasTime}
use Rattle.gix_paint.specs.Painting.{IsFaultAt}
use Rattle.gix_simple.specs.Walk.{SimpleWalk, cutoff, is_older, IsMade}
use Rattle.gix_revwalk.specs.Ids.{ids_of}

-- the pending commits, each with its own time
abbrev pub timed : Objects → List Pending → List Pending
timed objects pending = map (λ p. record { id = p.id; time = time_of objects p.id }) pending

-- the pending commits that a cutoff leaves, and the ids of the ones that it takes out
abbrev pub recent : Option ℤ → List Pending → List Pending
recent limit pending = filter (λ p. not (is_older p.time limit)) pending

abbrev pub outdated : Option ℤ → List Pending → List ObjectId
outdated limit pending = ids_of (filter (λ p. is_older p.time limit) pending)

-- the pending commits have been read, and the ones older than a cutoff are taken out: they may come again, and the predicate isn't asked again
pub record IsSortedByTime {F P : Type 0} (objects : F → Objects) (old : SimpleWalk F P) (by : Sorting) (new : SimpleWalk F P) : Type 0 where
  pub read : All (λ p. IsSome (commit_at (objects old.store) p.id)) old.pending
  pub pending : new.pending ≡ recent (cutoff mode.All by) (timed (objects old.store) old.pending)
  pub seen : (i : ObjectId) → set.contains new.seen i
      ≡ (set.contains old.seen i && not (is_among i (outdated (cutoff mode.All by) (timed (objects old.store) old.pending))))
  pub remembered : (i : ObjectId) → set.contains new.remembered i
      ≡ (set.contains old.remembered i || is_among i (outdated (cutoff mode.All by) (timed (objects old.store) old.pending)))
  pub others : new ≡ record old { sorting = by; pending = new.pending; seen = new.seen; remembered = new.remembered }

-- the fault of the first pending commit whose time can't be read
abbrev pub IsTipFault : Objects → (ObjectId → Type 0) → ObjectId → Error → Type 0
IsTipFault objects faulty i (error.Find e) = IsFaultAt objects faulty i (hidden_by.Find e)
IsTipFault objects faulty i (error.ObjectDecode e) = IsFaultAt objects faulty i (hidden_by.ObjectDecode e)
IsTipFault objects faulty i (error.HiddenGraph e) = ⊥
IsTipFault objects faulty i error.Memory = Unit {0}

pub record FailsAtTip (objects : Objects) (faulty : ObjectId → Type 0) (pending : List Pending) (e : Error) : Type 0 where
  pub before : List Pending
  pub tip : Pending
  pub behind : List Pending
  pub place : pending ≡ before ++ tip ∷ behind
  pub read : All (λ p. IsSome (commit_at objects p.id)) before
  pub fault : IsTipFault objects faulty tip.id e

abbrev pub IsSortedIn : {F P : Type 0} → SimpleWalk F P → ObjectId → ℤ → Bool → SimpleWalk F P → Type 0
IsSortedIn old i time true new = new ≡ record old { seen = set.remove old.seen i; remembered = set.insert old.remembered i }
IsSortedIn old i time false new = new ≡ record old { pending = old.pending ++ record { id = i; time = time } ∷ [] }

-- one pending commit is read, and taken out where it is older than the cutoff
abbrev pub SortsIn : {F P : Type 0} → (F → Objects) → (F → ObjectId → Type 0) → Option ℤ → SimpleWalk F P → ObjectId → Result (Unit {0}) Error
    → SimpleWalk F P → Type 0
SortsIn objects faulty limit old i (Ok done) new = (time : ℤ) × HasTime (objects old.store) i time × IsSortedIn old i time (is_older time limit) new
SortsIn objects faulty limit old i (Err e) new = IsTipFault (objects old.store) (faulty old.store) i e

-- the pending commits are read one after the other
pub data SortsAll {F P : Type 0} (objects : F → Objects) (faulty : F → ObjectId → Type 0) (limit : Option ℤ) : SimpleWalk F P → List Pending
    → SimpleWalk F P → Type 0 where
  none : {old : SimpleWalk F P} → SortsAll objects faulty limit old [] old
  more : {old mid new : SimpleWalk F P} {tip : Pending} {tips : List Pending} → SortsIn objects faulty limit old tip.id (Ok tt) mid
      → SortsAll objects faulty limit mid tips new → SortsAll objects faulty limit old (tip ∷ tips) new

-- a walk that was made of some tips, after any calls that choose its order, and before its first step
pub data IsBuilt {F P : Type 0} (objects : F → Objects) (faulty : F → ObjectId → Type 0) (answers : P → ObjectId → Bool → P → Type 0) (store : F)
    (predicate : P) (tips : List ObjectId) : SimpleWalk F P → Type 0 where
  made : {walk : SimpleWalk F P} → IsMade objects faulty answers store predicate tips walk → IsBuilt objects faulty answers store predicate tips walk
  breadth_first : {walk : SimpleWalk F P} → IsBuilt objects faulty answers store predicate tips walk
      → IsBuilt objects faulty answers store predicate tips (record walk { sorting = sorting.BreadthFirst })
  by_time : {walk new : SimpleWalk F P} {by : Sorting} → IsBuilt objects faulty answers store predicate tips walk → IsSortedByTime objects walk by new
      → IsBuilt objects faulty answers store predicate tips new
  hides : {walk : SimpleWalk F P} {ids : List ObjectId} → IsBuilt objects faulty answers store predicate tips walk
      → IsBuilt objects faulty answers store predicate tips (record walk { hidden_tips = ids })
  walks : {walk : SimpleWalk F P} {parents : Parents} → IsBuilt objects faulty answers store predicate tips walk
      → IsBuilt objects faulty answers store predicate tips (record walk { parents = parents })
  reads : {walk : SimpleWalk F P} {rows : List GraphRow} → IsBuilt objects faulty answers store predicate tips walk
      → IsBuilt objects faulty answers store predicate tips (record walk { rows = rows })

-- none of these calls had a cutoff
abbrev pub IsUncut : {F P : Type 0} {objects : F → Objects} {faulty : F → ObjectId → Type 0} {answers : P → ObjectId → Bool → P → Type 0} {store : F}
    {predicate : P} {tips : List ObjectId} {walk : SimpleWalk F P} → IsBuilt objects faulty answers store predicate tips walk → Type 0
IsUncut (made m) = Unit {0}
IsUncut (breadth_first b) = IsUncut b
IsUncut (by_time {by = by} b s) = IsUncut b × (cutoff mode.All by ≡ None)
IsUncut (hides b) = IsUncut b
IsUncut (walks b) = IsUncut b
IsUncut (reads b) = IsUncut b
