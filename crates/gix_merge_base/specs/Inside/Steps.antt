-- What the parts of a call do.
use Rattle.std.specs.Prelude.{◌≡◌, ◌≢◌, List, [], ◌∷◌, ◌++◌, map, filter, not, Bool, Option, Some, Result, Err, Contains}
use Rattle.std.specs.List.{flat_map}
use Rattle.std.specs.Iterator.{Drains, YieldsThen}
use Rattle.std.specs.FinSet as set
use Rattle.gix_hash.specs.declared.ObjectId.{ObjectId}
use Rattle.gix_hash.specs.Id.{id_cmp, is_same, is_among}
use Rattle.gix_hash.specs.Reach.{Reaches}
use Rattle.gix_object.specs.Object.{Objects}
use Rattle.gix_commitgraph.specs.Rows.{GraphRow}
use Rattle.gix_paint.specs.declared.Hidden.{Hidden}
use Rattle.gix_paint.specs.Painting.{IsFaultAt}
use Rattle.gix_simple.specs.declared.Error.{Error as WalkError}
use Rattle.gix_simple.specs.Walk.{SimpleWalk, IsMade}
use Rattle.gix_contained.specs.declared.Error.{Error}
use Rattle.gix_merge_base.specs.Bases.{IsCommon}
use Rattle.gix_contained.specs.Contained.{error_of}
use Rattle.gix_merge_base.specs.Errors.{error_of_walk}
use Rattle.gix_revwalk.specs.declared.Info.{Info}
use Rattle.gix_revwalk.specs.Infos.{given}
use Rattle.gix_revwalk.specs.Agreeing.{IsAgreeing}
use Rattle.gix_revwalk.specs.Commits.{ReadsWhole, parents_of}
use Rattle.gix_revwalk.specs.Ids.{AreDistinct}

-- a walk over what others reach and one doesn't, before its first step
pub record StartsFrom {F P : Type 0} (objects : F → Objects) (faulty : F → ObjectId → Type 0) (answers : P → ObjectId → Bool → P → Type 0) (store : F)
    (predicate : P) (rows : List GraphRow) (one : ObjectId) (others : List ObjectId) (walk : SimpleWalk F P) : Type 0 where
  pub made : SimpleWalk F P
  pub makes : IsMade objects faulty answers store predicate others made
  pub is : walk ≡ record made { hidden_tips = one ∷ []; rows = rows }

-- the set has these ids
abbrev pub Collects : List ObjectId → set.FinSet id_cmp → Type 0
Collects ids those = (i : ObjectId) → set.contains those i ≡ is_among i ids

abbrev pub named_by : List Info → List ObjectId
named_by infos = flat_map (λ info. info.parent_ids.items) infos

-- a walk was drawn to its end and gave these commits
pub record Gathers {W : Type 0} (Steps : W → Option (Result Info WalkError) → W → Type 0) (tips : List ObjectId) (walk : W)
    (only : set.FinSet id_cmp) (named : List ObjectId) : Type 0 where
  pub infos : List Info
  pub drawn : Drains Steps walk (given infos)
  pub given_are : Collects (map (λ info. info.id) infos) only
  pub named_are : named ≡ tips ++ named_by infos

-- a walk gave commits, and then a fault
pub record GatherFails {W : Type 0} (Steps : W → Option (Result Info WalkError) → W → Type 0) (walk : W) (e : Error) : Type 0 where
  pub infos : List Info
  pub fault : WalkError
  pub last : W
  pub drawn : YieldsThen Steps walk (given infos) (Some (Err fault)) last
  pub is : e ≡ error_of_walk fault

-- common ancestors, each once, that reach all common ancestors
pub record AreFirst (parents : ObjectId → List ObjectId) (one : ObjectId) (others common : List ObjectId) : Type 0 where
  pub once : AreDistinct common
  pub each : (i : ObjectId) → Contains common i → IsCommon parents one others i
  pub all : (i : ObjectId) → IsCommon parents one others i → (k : ObjectId) × Contains common k × Reaches parents (k ∷ []) i

pub record MeetsFirst (objects : Objects) (rows : List GraphRow) (one : ObjectId) (others common : List ObjectId) : Type 0 where
  pub first : IsAgreeing objects rows → AreFirst (parents_of objects) one others common
  pub read : IsAgreeing objects rows → others ≢ [] → (i : ObjectId) → Reaches (parents_of objects) (one ∷ others) i → ReadsWhole objects i

-- the ids that are others than this one are appended
abbrev pub others_among : ObjectId → List ObjectId → List ObjectId
others_among i ids = filter (λ j. not (is_same j i)) ids

abbrev pub OthersOf : ObjectId → List ObjectId → List ObjectId → List ObjectId → Type 0
OthersOf i ids old new = new ≡ old ++ others_among i ids

-- the parents of commits that are others than these
abbrev pub ReadsOthers : Objects → List GraphRow → List ObjectId → List ObjectId → Type 0
ReadsOthers objects rows ids those = IsAgreeing objects rows → those ≡ flat_map (λ i. others_among i (parents_of objects i)) ids

-- a commit of these can't be read
abbrev pub ReadFailsAmong : Objects → (ObjectId → Type 0) → List ObjectId → Error → Type 0
ReadFailsAmong objects faulty ids e = (i : ObjectId) × Contains ids i × (why : Hidden) × IsFaultAt objects faulty i why × (e ≡ error_of why)
