-- What a predicate is asked, and what it becomes by it.
use Rattle.std.specs.Prelude.{◌≡◌, Bool, true, List, [], ◌∷◌}
use Rattle.gix_hash.specs.declared.ObjectId.{ObjectId}
use Rattle.gix_revwalk.specs.declared.Unfiltered.{Unfiltered}

-- what a predicate becomes by being asked
pub data Becomes {P : Type 0} (answers : P → ObjectId → Bool → P → Type 0) (old : P) : P → Type 0 where
  itself : Becomes answers old old
  further : {mid new : P} {i : ObjectId} {answer : Bool} → Becomes answers old mid → answers mid i answer new → Becomes answers old new

-- whatever it is asked, and whenever, the predicate answers this test
abbrev pub AnswersBy : {P : Type 0} → (P → ObjectId → Bool → P → Type 0) → P → (ObjectId → Bool) → Type 0
AnswersBy {P} answers predicate accepts = (mid new : P) (i : ObjectId) (answer : Bool) → Becomes answers predicate mid → answers mid i answer new
    → answer ≡ accepts i

-- asked about these ids, in order, the predicate goes from one state to another
pub data AsksAll {P : Type 0} (answers : P → ObjectId → Bool → P → Type 0) : P → List ObjectId → P → Type 0 where
  none : {p : P} → AsksAll answers p [] p
  more : {p q r : P} {i : ObjectId} {ids : List ObjectId} {answer : Bool} → answers p i answer q → AsksAll answers q ids r → AsksAll answers p (i ∷ ids) r

-- the predicate that accepts all
abbrev pub accepts_all : Unfiltered → ObjectId → Bool → Unfiltered → Type 0
accepts_all old i answer new = (answer ≡ true) × (new ≡ old)
