-- The order of a walk that takes the best time, and of one time what was named first.
use Rattle.std.specs.Prelude.{◌≡◌, ◌≤ℤ◌, ℤ, int_le, Bool, not, ◌&&◌, List, Option, None, Some, find, Contains}
use Rattle.gix_hash.specs.declared.ObjectId.{ObjectId}
use Rattle.gix_hash.specs.Id.{is_among}
use Rattle.gix_revwalk.specs.declared.CommitTimeOrder.{CommitTimeOrder}
use Rattle.gix_revwalk.specs.declared.CommitTimeOrder.TheVariants.{NewestFirst, OldestFirst}
use Rattle.gix_revwalk.specs.BreadthOrder.{named_by, IsFirstNew}

-- the first of two times is as good as the second
abbrev pub IsNoWorse : CommitTimeOrder → ℤ → ℤ → Type 0
IsNoWorse NewestFirst a b = b ≤ℤ a
IsNoWorse OldestFirst a b = a ≤ℤ b

-- the same, as a test
abbrev pub is_no_worse : CommitTimeOrder → ℤ → ℤ → Bool
is_no_worse NewestFirst a b = int_le b a
is_no_worse OldestFirst a b = int_le a b

-- named by the starts or by a commit taken, and not taken
abbrev pub IsPending : (ObjectId → List ObjectId) → List ObjectId → List ObjectId → ObjectId → Type 0
IsPending next starts taken i = Contains (named_by next starts taken) i × (Contains taken i → ⊥)

-- one of the best times
pub record IsBest (order : CommitTimeOrder) (time : ObjectId → ℤ) (P : ObjectId → Type 0) (i : ObjectId) : Type 0 where
  pub among : P i
  pub best : (other : ObjectId) → P other → IsNoWorse order (time i) (time other)

-- one of the best times, and the first of the names that is as good and isn't taken
pub record IsFirstBest (order : CommitTimeOrder) (time : ObjectId → ℤ) (P : ObjectId → Type 0) (names taken : List ObjectId) (i : ObjectId) : Type 0 where
  pub best : IsBest order time P i
  pub first : find (λ j. not (is_among j taken) && is_no_worse order (time j) (time i)) names ≡ Some i

-- what comes next: a pending one of best time, and of these the one that was named first
abbrev pub IsNextByTime : CommitTimeOrder → (ObjectId → ℤ) → (ObjectId → List ObjectId) → List ObjectId → List ObjectId → ObjectId → Type 0
IsNextByTime order time next starts taken = IsFirstBest order time (IsPending next starts taken) (named_by next starts taken) taken

-- what comes next in an order by time, or else in breadth order
abbrev pub IsNextOne : Option CommitTimeOrder → (ObjectId → ℤ) → (ObjectId → List ObjectId) → List ObjectId → List ObjectId → ObjectId → Type 0
IsNextOne None time = IsFirstNew
IsNextOne (Some order) time = IsNextByTime order time
