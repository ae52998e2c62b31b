-- Which tips contain a commit, and why this isn't known.
use Rattle.std.specs.Prelude.{◌≢◌, List, [], ◌∷◌}
use Rattle.gix_hash.specs.declared.ObjectId.{ObjectId}
use Rattle.gix_hash.specs.Reach.{Reaches}
use Rattle.gix_object.specs.Object.{Objects}
use Rattle.gix_commitgraph.specs.Rows.{GraphRow}
pub use Rattle.gix_merge_base.specs.Bases.{FailsBy}
use Rattle.gix_revwalk.specs.Agreeing.{IsAgreeing}
use Rattle.gix_revwalk.specs.Commits.{ReadsWhole, parents_of}

-- of tips, in order and with repeats, those that reach the target
pub data AreContaining (parents : ObjectId → List ObjectId) (target : ObjectId) : List ObjectId → List ObjectId → Type 0 where
  empty : AreContaining parents target [] []
  contains : {i : ObjectId} {tips those : List ObjectId} → Reaches parents (i ∷ []) target → AreContaining parents target tips those
      → AreContaining parents target (i ∷ tips) (i ∷ those)
  passed : {i : ObjectId} {tips those : List ObjectId} → (Reaches parents (i ∷ []) target → ⊥) → AreContaining parents target tips those
      → AreContaining parents target (i ∷ tips) those

-- What an answer says where the rows agree with the store, or there are none: it is exactly the tips that reach the target, and all that the
-- target and the tips reach was read, by a row or from the store.
pub record FindsContaining (objects : Objects) (rows : List GraphRow) (target : ObjectId) (tips those : List ObjectId) : Type 0 where
  pub exact : IsAgreeing objects rows → AreContaining (parents_of objects) target tips those
  pub read : IsAgreeing objects rows → tips ≢ [] → (i : ObjectId) → Reaches (parents_of objects) (target ∷ tips) i → ReadsWhole objects i
