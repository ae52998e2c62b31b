-- What the parts of a call do.
use Rattle.std.specs.Prelude.{◌≡◌, ◌≢◌, ◌↔◌, ◌⊎◌, ◌||◌, List, [], ◌∷◌, ◌++◌, Bool, true, Option, Some, None, Result, Contains, Vec}
use Rattle.std.specs.Iterator.{Drains}
use Rattle.std.specs.FinMap as map_of
use Rattle.std.specs.FinSet as set
use Rattle.gix_hash.specs.declared.ObjectId.{ObjectId}
use Rattle.gix_hash.specs.Id.{id_cmp, is_among}
use Rattle.gix_hash.specs.Reach.{Reaches}
use Rattle.gix_object.specs.Object.{Objects}
use Rattle.gix_commitgraph.specs.Rows.{GraphRow}
use Rattle.gix_containing.specs.Containing.{AreContaining}
use Rattle.gix_revwalk.specs.Infos.{given}
use Rattle.gix_revwalk.specs.declared.Info.{Info}
use Rattle.gix_revwalk.specs.Agreeing.{IsAgreeing}
use Rattle.gix_revwalk.specs.Commits.{ReadsWhole, parents_of}
use Rattle.gix_revwalk.specs.Ids.{new_ids}
use Rattle.gix_simple.specs.declared.Error.{Error as WalkError}

-- whether any of the tips reaches the target
abbrev pub TellsReach : Objects → List GraphRow → List ObjectId → ObjectId → Bool → Type 0
TellsReach objects rows tips target any = IsAgreeing objects rows → (any ≡ true) ↔ Reaches (parents_of objects) tips target

-- the tips that reach the target
abbrev pub SelectsTips : Objects → List GraphRow → ObjectId → List ObjectId → List ObjectId → Type 0
SelectsTips objects rows target tips those = IsAgreeing objects rows → AreContaining (parents_of objects) target tips those

-- only what reaches the target is marked, and all that the target and the tips reach was read
pub record MarksOnly (objects : Objects) (rows : List GraphRow) (target : ObjectId) (tips : List ObjectId) (marks : set.FinSet id_cmp) : Type 0 where
  pub sound : IsAgreeing objects rows → (i : ObjectId) → set.contains marks i ≡ true → Reaches (parents_of objects) (i ∷ []) target
  pub read : IsAgreeing objects rows → tips ≢ [] → (i : ObjectId) → Reaches (parents_of objects) (target ∷ tips) i → ReadsWhole objects i

-- the children of commits
abbrev pub Children : Type 0 → Type 0
Children Z = map_of.FinMap id_cmp (Vec ObjectId Z)

abbrev pub ids_in : {Z : Type 0} → Option (Vec ObjectId Z) → List ObjectId
ids_in None = []
ids_in (Some ids) = ids.items

abbrev pub children_in : {Z : Type 0} → Children Z → ObjectId → List ObjectId
children_in children i = ids_in (map_of.get children i)

-- a child is added to those of one commit, or of some
abbrev pub AddsTo : {Z : Type 0} → ObjectId → ObjectId → Children Z → Children Z → Type 0
AddsTo child parent old new = (i c : ObjectId) → Contains (children_in new i) c ↔ (Contains (children_in old i) c ⊎ ((c ≡ child) × (i ≡ parent)))

abbrev pub AddsChild : {Z : Type 0} → ObjectId → List ObjectId → Children Z → Children Z → Type 0
AddsChild child parents old new = (i c : ObjectId) → Contains (children_in new i) c ↔ (Contains (children_in old i) c ⊎ ((c ≡ child) × Contains parents i))

-- the children are those of these commits
abbrev pub AreChildren : {Z : Type 0} → List Info → Children Z → Type 0
AreChildren infos children =
    (i c : ObjectId) → Contains (children_in children i) c ↔ ((info : Info) × Contains infos info × (info.id ≡ c) × Contains info.parent_ids.items i)

-- a walk was drawn to its end, and its commits are children of their parents
pub record GathersChildren {W Z : Type 0} (Steps : W → Option (Result Info WalkError) → W → Type 0) (walk : W) (children : Children Z) : Type 0 where
  pub infos : List Info
  pub drawn : Drains Steps walk (given infos)
  pub are_children : AreChildren infos children

-- ids are marked, and wait if they are new
pub record MarksNew (ids : List ObjectId) (marks : set.FinSet id_cmp) (waiting : List ObjectId) (marks_now : set.FinSet id_cmp) (waiting_now : List ObjectId) : Type 0 where
  pub marked : (i : ObjectId) → set.contains marks_now i ≡ (is_among i ids || set.contains marks i)
  pub waits : waiting_now ≡ waiting ++ new_ids (set.contains marks) ids
