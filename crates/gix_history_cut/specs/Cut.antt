-- A history of which the parents of some commits aren't known, and what is right of it all the same.
use Rattle.std.specs.Prelude.{◌≡◌, ◌≢◌, ◌⊎◌, ◌+◌, ℕ, ℤ, List, [], ◌∷◌, ◌++◌, length, flat_map, true, Option, Some, All, Contains, codes}
use Rattle.gix_hash.specs.declared.ObjectId.{ObjectId}
use Rattle.gix_statement.specs.WholeStatement.{AreTips, Begins, Choice, Chooses, Follows, IsBase, IsShown, IsThere, Objects, Reaches, Row, Serves, Spells}
use Rattle.gix_statement.specs.WholeStatement.{digits_in}

-- nothing is below the line of what these reach and the hidden ones don't
abbrev pub ShowsAbove : (Below : ObjectId → Type 0) → (known : ObjectId → List ObjectId) → (time : ObjectId → ℤ) → (tips hidden : List ObjectId) → Type 0
ShowsAbove Below known time tips hidden = (i : ObjectId) → IsShown known known time tips hidden i → Below i → ⊥

-- A limit is reached before anything below is met: each start is above, and so is each commit that is followed from those before the limit.
pub record BeginsAbove (Below : ObjectId → Type 0) (known followed : ObjectId → List ObjectId) (time : ObjectId → ℤ)
    (starts hidden : List ObjectId) (by : List ℕ) (c : Choice) : Type 0 where
  pub all : (parents : ℕ) (time : ℤ) → c.keeps parents time ≡ true
  pub most : ℕ
  pub limit : c.limit ≡ Some most
  pub ids : List ObjectId
  pub begins : Begins known followed time starts hidden by ids
  pub enough : length ids ≡ c.skip + most
  pub above : (i : ObjectId) → Contains (starts ++ flat_map followed ids) i → Below i → ⊥

-- What words ask for doesn't hang on what is below: it lists or counts nothing that is, and asks of nothing that is whether it is reached.
pub record IsDecided (Below : ObjectId → Type 0) (known : ObjectId → List ObjectId) (time : ObjectId → ℤ) (words : List (List ℕ)) : Type 0 where
  pub lists : {by : List ℕ} {place : ℕ} {option rest : List (List ℕ)} {c : Choice} {tips hidden starts : List ObjectId} {followed : ObjectId → List ObjectId}
      → words ≡ by ∷ (option ++ rest) → Contains (codes "breadth" ∷ codes "newest" ∷ codes "oldest" ∷ codes "topo" ∷ codes "date" ∷ []) by
      → Chooses tips hidden place rest c → Follows known time tips by option followed starts
      → ShowsAbove Below known time tips hidden ⊎ BeginsAbove Below known followed time starts hidden by c
  pub ahead : {a b : List ℕ} {one other : ObjectId} → words ≡ codes "ahead" ∷ a ∷ b ∷ [] → Spells (digits_in one) a one → Spells (digits_in other) b other
      → ShowsAbove Below known time (one ∷ []) (other ∷ []) × ShowsAbove Below known time (other ∷ []) (one ∷ [])
  pub contains : {rest : List (List ℕ)} (tip : ObjectId) (ids : List ObjectId) → words ≡ codes "contains" ∷ rest → AreTips rest (tip ∷ ids) []
      → All (λ i. Below i → ⊥) ids
  pub containing : {rest : List (List ℕ)} (target : ObjectId) (tips : List ObjectId) → words ≡ codes "containing" ∷ rest
      → AreTips rest (target ∷ tips) [] → Below target → ⊥
  pub bases : {rest : List (List ℕ)} (one : ObjectId) (others : List ObjectId) → words ≡ codes "merge-base" ∷ rest → AreTips rest (one ∷ others) []
      → ShowsAbove Below known time (one ∷ []) others × ((i : ObjectId) → IsBase known one others i → Below i → ⊥)

-- Below is what a commit reaches whose parents aren't known: the least line, of which whatever is taken for one has all.
abbrev pub IsBelow : (parents known : ObjectId → List ObjectId) → ObjectId → Type 0
IsBelow parents known i = (c : ObjectId) × (known c ≢ parents c) × Reaches parents (c ∷ []) i

-- What is right of the history as far as it is known is right of all of it, if it doesn't hang on what is below.
abbrev pub CutCarries : Type 0
CutCarries = (objects : Objects) (rows some : List Row) (parents known : ObjectId → List ObjectId) (time : ObjectId → ℤ) (words : List (List ℕ))
    (old new : Option (List ℕ))
    → ((i : ObjectId) → (known i ≡ parents i) ⊎ (known i ≡ [])) → ((i : ObjectId) → IsThere objects some i → IsThere objects rows i)
    → IsDecided (IsBelow parents known) known time words
    → Serves objects some known time old new words → Serves objects rows parents time old new words
