-- How many commits one commit reaches and another doesn't, and why this isn't known.
use Rattle.std.specs.Prelude.{◌≡◌, ◌↔◌, ℕ, List, [], ◌∷◌, length, Contains}
use Rattle.gix_hash.specs.declared.ObjectId.{ObjectId}
use Rattle.gix_hash.specs.Reach.{Reaches}
use Rattle.gix_object.specs.Object.{Objects}
use Rattle.gix_commitgraph.specs.Rows.{GraphRow}
pub use Rattle.gix_merge_base.specs.Bases.{FailsBy}
use Rattle.gix_revwalk.specs.Agreeing.{IsAgreeing}
use Rattle.gix_revwalk.specs.Commits.{ReadsWhole, parents_of}
use Rattle.gix_revwalk.specs.Ids.{AreDistinct}

-- one reaches so many commits that the other doesn't reach: they are listed each once
pub record IsAhead (parents : ObjectId → List ObjectId) (one other : ObjectId) (n : ℕ) : Type 0 where
  pub ids : List ObjectId
  pub once : AreDistinct ids
  pub exact : (i : ObjectId) → Contains ids i ↔ (Reaches parents (one ∷ []) i × (Reaches parents (other ∷ []) i → ⊥))
  pub number : length ids ≡ n

-- What an answer says where the rows agree with the store, or there are none: the numbers are exact, and all that the two commits reach was
-- read, by a row or from the store.
pub record FindsAhead (objects : Objects) (rows : List GraphRow) (one other : ObjectId) (ahead behind : ℕ) : Type 0 where
  pub ahead_is : IsAgreeing objects rows → IsAhead (parents_of objects) one other ahead
  pub behind_is : IsAgreeing objects rows → IsAhead (parents_of objects) other one behind
  pub read : IsAgreeing objects rows → (i : ObjectId) → Reaches (parents_of objects) (one ∷ other ∷ []) i → ReadsWhole objects i
