-- The statements of the laws.
use Rattle.std.specs.Prelude.{◌≡◌, List, ◌++◌}
use Rattle.gix_hash.specs.declared.ObjectId.{ObjectId}
use Rattle.gix_hash.specs.Reach.{Reaches}
use Rattle.gix_object.specs.declared.find.existing_iter.Error.TheVariants as existing
use Rattle.gix_object.specs.Object.{Objects}
use Rattle.gix_commitgraph.specs.Rows.{GraphRow}
use Rattle.gix_contained.specs.declared.Error.{Error}
use Rattle.gix_contained.specs.declared.Error.TheVariants as error
use Rattle.gix_contained.specs.Contained.{AreContained, Selects, FailsBy}
use Rattle.gix_paint.specs.Painting.{IsHistory}
use Rattle.gix_revwalk.specs.Agreeing.{IsAgreeing}
use Rattle.gix_revwalk.specs.Commits.{ReadsWhole, parents_of}

abbrev pub ContainsExactly : Type 0
ContainsExactly =
    (objects : Objects) (rows : List GraphRow) (tips ids those : List ObjectId) → IsAgreeing objects rows → Selects objects rows tips ids those →
    AreContained (parents_of objects) tips ids those

abbrev pub RowsAgree : Type 0
RowsAgree =
    (history one other : Objects) (rows others : List GraphRow) (tips ids those these : List ObjectId) →
    IsHistory one rows history → Selects one rows tips ids those →
    IsHistory other others history → Selects other others tips ids these →
    those ≡ these

module _ {F : Type 0} (objects : F → Objects) (faulty : F → ObjectId → Type 0) where
  abbrev pub Succeeds : Type 0
  Succeeds =
      (store : F) (rows : List GraphRow) (tips ids : List ObjectId) (e : Error) →
      IsAgreeing (objects store) rows → ((i : ObjectId) → Reaches (parents_of (objects store)) (ids ++ tips) i → ReadsWhole (objects store) i) →
      FailsBy (objects store) (faulty store) rows tips ids e → e ≡ error.Find existing.Store
