-- How a commit becomes ready.
use Rattle.std.proofs.Common.{◌≡◌, ◌⊎◌, ◌<◌, ◌≤◌, ℕ, take, suc, ℤ, pos, List, [], ◌∷◌, Bool, arith, refl, Option, Some, None, Ok, Contains, length, sym, ap, subst, ◌∙◌, get_or, take-suc, unwrap_or}
use Rattle.gix_topo.proofs.Common.{Contains-get_or, Contains-push_cases, ObjectId, Objects, GraphRow, Info, Error, Walk, rows_of, Reads, by_row, by_text, LookUpFails, Counting, least, Explores, IsRested, by_mode, last_places, Ready}
use Rattle.gix_topo.proofs.Common.{LooksUpParent, IsPushFault, parent, lowered, with_counting, TakesOne, IsTakingFault, releasing, ReleasesAll, IsFaultAmong}
use Rattle.gix_revwalk.specs.declared.Parents.{Parents}
use Rattle.gix_revwalk.specs.declared.Parents.TheVariants as mode
use Rattle.gix_topo.specs.Inside.Reader.{Reader}

-- what is read has the id that was asked for, and a time
pub record IsTimedInfo (i : ObjectId) (info : Info) (time : ℤ) : Type 0 where
  pub id : info.id ≡ i
  pub same_time : info.commit_time ≡ Some time

abbrev pub or_zero : Option ℤ → ℤ
or_zero None = pos 0
or_zero (Some t) = t

timed : {o : Option ℤ} (t : ℤ) → o ≡ Some t → o ≡ Some (or_zero o)
timed t e = e ∙ ap (λ x. Some (or_zero x)) (sym e)

pub reads_timed : {objects : Objects} {faulty : ObjectId → Type 0} {rows : List GraphRow} {in_use : Bool} {i : ObjectId} {info : Info} {new : Bool} → Reads objects faulty rows in_use i (Ok info) new → IsTimedInfo i info (or_zero info.commit_time)
reads_timed (by_row r is) = record { id = is.same_id; same_time = timed _ is.same_time }
reads_timed (by_text n t) = record { id = t.2.0.same_id; same_time = timed _ t.2.0.same_time }

module _ {F : Type 0} (objects : F → Objects) (faulty : F → ObjectId → Type 0) where
  pub fault_of_parent : (old : Walk F) (i : ObjectId) (e : Error) (info : Info) (read now : Reader F) (p : ObjectId) → now ≡ read → read ≡ record old.counting.reader { in_use = read.in_use }
      → Reads (objects old.counting.reader.find) (faulty old.counting.reader.find) (rows_of old.counting.reader.graph) old.counting.reader.in_use i (Ok info) read.in_use → Contains info.parent_ids.items p
      → LookUpFails (objects now.find) (faulty now.find) (rows_of now.graph) now.in_use p e → IsPushFault objects faulty old i e
  fault_of_parent old i e info read now p still same r m f =
      parent r m (subst (λ x. LookUpFails (objects x.find) (faulty x.find) (rows_of x.graph) read.in_use p e) same (subst (λ x. LookUpFails (objects x.find) (faulty x.find) (rows_of x.graph) x.in_use p e) still f))

-- an item at an index is in the list
pub at_index : {X : Type 0} (xs ys : List X) (k : ℕ) (d : X) → ys ≡ xs → k < length ys → Contains xs (get_or ys k d)
at_index xs ys k d e l = subst (λ zs. Contains zs (get_or ys k d)) e (Contains-get_or ys k d l)

-- one item more of a list
pub take_more : {X : Type 0} (xs : List X) (k j : ℕ) (d x : X) → j ≡ suc k → k < length xs → Contains (take j xs) x → Contains (take k xs) x ⊎ (get_or xs k d ≡ x)
take_more xs k j d x e l m = Contains-push_cases (take k xs) (get_or xs k d) x (subst (λ ys. Contains ys x) (ap (λ n. take n xs) e ∙ take-suc xs k d l) m)

-- known alike by an equal reader and equal searches
pub looks_up_by : {F : Type 0} (objects : F → Objects) {now before : Counting F} → now ≡ before → (p : ObjectId) → LooksUpParent (objects now.reader.find) (rows_of now.reader.graph) now.reader.in_use now.frontier p
    → LooksUpParent (objects before.reader.find) (rows_of before.reader.graph) before.reader.in_use before.frontier p
looks_up_by objects same p = subst (λ c. LooksUpParent (objects c.reader.find) (rows_of c.reader.graph) c.reader.in_use c.frontier p) same

-- and so does it fail
pub fails_by : {F : Type 0} (objects : F → Objects) (faulty : F → ObjectId → Type 0) {now before : Counting F} → now ≡ before → (p : ObjectId) (e : Error) → LookUpFails (objects now.reader.find) (faulty now.reader.find) (rows_of now.reader.graph) now.reader.in_use p e
    → LookUpFails (objects before.reader.find) (faulty before.reader.find) (rows_of before.reader.graph) before.reader.in_use p e
fails_by objects faulty same p e = subst (λ c. LookUpFails (objects c.reader.find) (faulty c.reader.find) (rows_of c.reader.graph) c.reader.in_use p e) same

pub time_told : (o : Option ℤ) (d r : ℤ) → o ≡ Some (or_zero o) → r ≡ unwrap_or o d → Some (or_zero o) ≡ Some r
time_told None d r e u = cc
time_told (Some t) d r e u = ap Some (sym u)

-- of one id at most each mode takes all, and each is at its last place
pub mode_of_one : (m : Parents) (ids : List ObjectId) → length ids ≤ 1 → by_mode m ids ≡ ids
mode_of_one mode.All ids few = refl
mode_of_one mode.First [] few = refl
mode_of_one mode.First (i ∷ []) few = refl
mode_of_one mode.First (i ∷ j ∷ ids) few = absurd (omega arith)

pub last_of_one : (ids : List ObjectId) → length ids ≤ 1 → ids ≡ last_places ids
last_of_one [] few = refl
last_of_one (i ∷ []) few = refl
last_of_one (i ∷ j ∷ ids) few = absurd (omega arith)

-- a commit is taken, put together from what the parts did
module _ {F : Type 0} (objects : F → Objects) (faulty : F → ObjectId → Type 0) (old : Walk F) (r : Ready) (low : Counting F) (named ids : List ObjectId) (by : named ≡ by_mode old.counting.parents r.parents) (lows : low ≡ record old.counting { depth = least (rows_of old.counting.reader.graph) old.counting.depth named }) (at : ids ≡ last_places named) where
  low_is : low ≡ lowered objects faulty old r
  low_is = lows ∙ ap (λ those. record old.counting { depth = least (rows_of old.counting.reader.graph) old.counting.depth those }) by

  ids_are : ids ≡ last_places (by_mode old.counting.parents r.parents)
  ids_are = at ∙ ap last_places by

  pub explores_low : (explored : Counting F) → Explores objects faulty low explored → Explores objects faulty (lowered objects faulty old r) explored
  explores_low explored e = subst (λ c. Explores objects faulty c explored) low_is e

  module _ (explored : Counting F) (e : Explores objects faulty low explored) (rests : IsRested explored.reader.in_use explored.depth explored.frontier.queue) where
    pub takes_one : (added : List Ready) (new : Walk F) → ReleasesAll objects faulty (with_counting objects faulty old explored) ids added new → TakesOne objects faulty old r added new
    takes_one added new all = record {
      explored = explored;
      explores = explores_low explored e;
      rested = rests;
      releases = subst (λ those. ReleasesAll objects faulty (with_counting objects faulty old explored) those added new) ids_are all;
    }

    pub fault_among : (fault : Error) → IsFaultAmong objects faulty (with_counting objects faulty old explored) ids fault → IsTakingFault objects faulty old r fault
    fault_among fault f = releasing (explores_low explored e) rests (subst (λ those. IsFaultAmong objects faulty (with_counting objects faulty old explored) those fault) ids_are f)
