-- The statements of the laws.
use Rattle.std.specs.Prelude.{◌≡◌, ◌↔◌, List, [], ◌∷◌, Contains}
use Rattle.gix_hash.specs.declared.ObjectId.{ObjectId}
use Rattle.gix_hash.specs.Reach.{Reaches}
use Rattle.gix_object.specs.declared.find.existing_iter.Error.TheVariants as existing
use Rattle.gix_object.specs.Object.{Objects}
use Rattle.gix_commitgraph.specs.Rows.{GraphRow}
use Rattle.gix_contained.specs.Contained.{AreContained}
use Rattle.gix_containing.specs.Containing.{AreContaining, FindsContaining, FailsBy}
use Rattle.gix_contained.specs.declared.Error.{Error}
use Rattle.gix_contained.specs.declared.Error.TheVariants as error
use Rattle.gix_paint.specs.Painting.{IsHistory}
use Rattle.gix_revwalk.specs.Agreeing.{IsAgreeing}
use Rattle.gix_revwalk.specs.Commits.{ReadsWhole, parents_of}

abbrev pub ContainingExactly : Type 0
ContainingExactly =
    (objects : Objects) (rows : List GraphRow) (target : ObjectId) (tips those : List ObjectId) → IsAgreeing objects rows →
    FindsContaining objects rows target tips those → AreContaining (parents_of objects) target tips those

abbrev pub ContainingOfHistory : Type 0
ContainingOfHistory =
    (history objects : Objects) (rows : List GraphRow) (target : ObjectId) (tips those : List ObjectId) →
    IsHistory objects rows history → IsAgreeing objects rows → FindsContaining objects rows target tips those →
    AreContaining (parents_of history) target tips those

abbrev pub RowsAgree : Type 0
RowsAgree =
    (history one other : Objects) (rows others_rows : List GraphRow) (target : ObjectId) (tips those these : List ObjectId) →
    IsHistory one rows history → IsAgreeing one rows → FindsContaining one rows target tips those →
    IsHistory other others_rows history → IsAgreeing other others_rows → FindsContaining other others_rows target tips these →
    those ≡ these

abbrev pub IsConverse : Type 0
IsConverse =
    (parents : ObjectId → List ObjectId) (target i : ObjectId) (tips those met : List ObjectId) → AreContaining parents target tips those →
    AreContained parents (i ∷ []) (target ∷ []) met → Contains tips i → Contains those i ↔ Contains met target

module _ {F : Type 0} (objects : F → Objects) (faulty : F → ObjectId → Type 0) where
  abbrev pub Succeeds : Type 0
  Succeeds =
      (store : F) (rows : List GraphRow) (target : ObjectId) (tips : List ObjectId) (e : Error) → IsAgreeing (objects store) rows →
      ((i : ObjectId) → Reaches (parents_of (objects store)) (target ∷ tips) i → ReadsWhole (objects store) i) →
      FailsBy (objects store) (faulty store) rows target tips e → e ≡ error.Find existing.Store
