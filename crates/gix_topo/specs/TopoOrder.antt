-- `git rev-list --topo-order`: no parent before all of its children, and no lines of history intermixed.
use Rattle.std.specs.Prelude.{◌≡◌, ℤ, int_le, List, [], ◌∷◌, ◌++◌, reverse, Some, Contains, if◌then◌else◌}
use Rattle.gix_hash.specs.declared.ObjectId.{ObjectId}
use Rattle.gix_hash.specs.Id.{is_among}
use Rattle.gix_revwalk.specs.BreadthOrder.{first_new}
use Rattle.gix_topo.specs.WalkSet.{IsReady, IsChildless}

-- the ids of the first list that have P are the second, in order
pub data Keeps (P : ObjectId → Type 0) : List ObjectId → List ObjectId → Type 0 where
  none : Keeps P [] []
  kept : {i : ObjectId} {ids those : List ObjectId} → P i → Keeps P ids those → Keeps P (i ∷ ids) (i ∷ those)
  passed : {i : ObjectId} {ids those : List ObjectId} → (P i → ⊥) → Keeps P ids those → Keeps P (i ∷ ids) those

-- each id at its first place
abbrev pub distinct_after : List ObjectId → List ObjectId → List ObjectId
distinct_after seen [] = []
distinct_after seen (i ∷ ids) = if is_among i seen then distinct_after seen ids else i ∷ distinct_after (i ∷ seen) ids

abbrev pub first_places : List ObjectId → List ObjectId
first_places ids = distinct_after [] ids

-- each id at its last place
abbrev pub last_places : List ObjectId → List ObjectId
last_places [] = []
last_places (i ∷ ids) = if is_among i ids then last_places ids else i ∷ last_places ids

-- before the first of a time that isn't less
abbrev pub insert_by_time : {X : Type 0} → (X → ℤ) → X → List X → List X
insert_by_time time x [] = x ∷ []
insert_by_time time x (y ∷ ys) = if int_le (time x) (time y) then x ∷ y ∷ ys else y ∷ insert_by_time time x ys

-- by rising time, and at one time in the order given
abbrev pub by_time : {X : Type 0} → (X → ℤ) → List X → List X
by_time time [] = []
by_time time (x ∷ xs) = insert_by_time time x (by_time time xs)

module _ (time : ObjectId → ℤ) (walked : ObjectId → List ObjectId) (In : ObjectId → Type 0) (tips : List ObjectId) where
  -- the ids that became ready by the time when these were taken (the latest first), in the order in which they became it
  abbrev pub IsMadeReady : List ObjectId → List ObjectId → Type 0
  IsMadeReady [] ready = (childless : List ObjectId) × Keeps (IsChildless walked In) (first_places tips) childless × (ready ≡ by_time time childless)
  IsMadeReady (c ∷ taken) ready =
      (before added : List ObjectId)
      × IsMadeReady taken before
      × Keeps (IsReady walked In (Contains (c ∷ taken))) (last_places (walked c)) added × (ready ≡ before ++ added)

  -- what comes next: the last of the commits made ready that isn't taken
  abbrev pub IsLastMade : List ObjectId → ObjectId → Type 0
  IsLastMade taken i = (ready : List ObjectId) × IsMadeReady (reverse taken) ready × (first_new (reverse ready) taken ≡ Some i)
