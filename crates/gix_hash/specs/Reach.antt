-- What can be reached from ids by a step to the next ids.
use Rattle.std.specs.Prelude.{◌≡◌, ◌↔◌, List, Contains, Bool, true, ◌⊎◌}
use Rattle.gix_hash.specs.declared.ObjectId.{ObjectId}

-- the least set that holds the starts and the next ids of each member
pub data Reaches (next : ObjectId → List ObjectId) (starts : List ObjectId) : ObjectId → Type 0 where
  start : {i : ObjectId} → Contains starts i → Reaches next starts i
  step : {c i : ObjectId} → Reaches next starts c → Contains (next c) i → Reaches next starts i

-- a test that is true exactly of the members of a set
abbrev pub Tells : (ObjectId → Bool) → (ObjectId → Type 0) → Type 0
Tells test P = (i : ObjectId) → (test i ≡ true) ↔ P i

-- no id is its own ancestor
abbrev pub IsAcyclic : (ObjectId → List ObjectId) → Type 0
IsAcyclic next = (i : ObjectId) → Reaches next (next i) i → ⊥

-- a tip, or a parent of a commit that tips reach outside what is hidden
abbrev pub IsAtBoundary : (ObjectId → List ObjectId) → List ObjectId → List ObjectId → ObjectId → Type 0
IsAtBoundary parents tips hidden_tips i =
    Contains tips i ⊎ ((c : ObjectId) × Reaches parents tips c × (Reaches parents hidden_tips c → ⊥) × Contains (parents c) i)
