-- What the walks give.
use Rattle.std.specs.Prelude.{◌≡◌, ℕ, List, [], ◌∷◌, length, Option, Result}
use Rattle.std.specs.Iterator.{Drains}
use Rattle.gix_hash.specs.declared.ObjectId.{ObjectId}
use Rattle.gix_hash.specs.Reach.{Reaches}
use Rattle.gix_object.specs.Object.{Objects}
use Rattle.gix_commitgraph.specs.Rows.{GraphRow}
use Rattle.gix_simple.specs.declared.Error.{Error as WalkError}
use Rattle.gix_ahead.specs.Ahead.{IsAhead}
use Rattle.gix_revwalk.specs.declared.Info.{Info}
use Rattle.gix_revwalk.specs.Infos.{given}
use Rattle.gix_revwalk.specs.Agreeing.{IsAgreeing}
use Rattle.gix_revwalk.specs.Commits.{ReadsWhole, parents_of}

-- a walk was drawn to its end and gave so many commits
pub record DrawsSoMany {W : Type 0} (Steps : W → Option (Result Info WalkError) → W → Type 0) (walk : W) (n : ℕ) : Type 0 where
  pub infos : List Info
  pub drawn : Drains Steps walk (given infos)
  pub number : n ≡ length infos

-- the tip reaches so many commits that the hidden one doesn't, and all that both reach was read
pub record Numbers (objects : Objects) (rows : List GraphRow) (tip hidden : ObjectId) (n : ℕ) : Type 0 where
  pub is_ahead : IsAgreeing objects rows → IsAhead (parents_of objects) tip hidden n
  pub read : IsAgreeing objects rows → (i : ObjectId) → Reaches (parents_of objects) (hidden ∷ tip ∷ []) i → ReadsWhole objects i
