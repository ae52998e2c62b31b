-- What a topological walk gives, and when a commit of it is ready.
use Rattle.std.specs.Prelude.{List, Contains}
use Rattle.gix_hash.specs.declared.ObjectId.{ObjectId}
use Rattle.gix_hash.specs.Reach.{Reaches}

-- reached by the tips through the parents that are walked, and not reached by the ends through any
pub record IsInWalk (walked all : ObjectId → List ObjectId) (tips ends : List ObjectId) (i : ObjectId) : Type 0 where
  pub reached : Reaches walked tips i
  pub outside : Reaches all ends i → ⊥

-- no member is its own ancestor
abbrev pub IsAcyclicIn : (ObjectId → List ObjectId) → (ObjectId → Type 0) → Type 0
IsAcyclicIn walked In = (i : ObjectId) → In i → Reaches walked (walked i) i → ⊥

-- d is a child of p
pub record IsChild (walked : ObjectId → List ObjectId) (In : ObjectId → Type 0) (d p : ObjectId) : Type 0 where
  pub child : In d
  pub parent : In p
  pub named : Contains (walked d) p

-- a member without children
pub record IsChildless (walked : ObjectId → List ObjectId) (In : ObjectId → Type 0) (p : ObjectId) : Type 0 where
  pub member : In p
  pub alone : (d : ObjectId) → IsChild walked In d p → ⊥

-- p wasn't taken, and each child of it was
pub record IsReady (walked : ObjectId → List ObjectId) (In Taken : ObjectId → Type 0) (p : ObjectId) : Type 0 where
  pub member : In p
  pub left : Taken p → ⊥
  pub children : (d : ObjectId) → IsChild walked In d p → Taken d
