-- The statements of the laws.
use Rattle.std.specs.Prelude.{◌≡◌, ◌↔◌, List, [], ◌∷◌, Contains}
use Rattle.gix_hash.specs.declared.ObjectId.{ObjectId}
use Rattle.gix_hash.specs.Reach.{Reaches}
use Rattle.gix_object.specs.declared.find.existing_iter.Error.TheVariants as existing
use Rattle.gix_object.specs.Object.{Objects}
use Rattle.gix_commitgraph.specs.Rows.{GraphRow}
use Rattle.gix_paint.specs.Painting.{IsHistory}
use Rattle.gix_contained.specs.declared.Error.{Error}
use Rattle.gix_contained.specs.declared.Error.TheVariants as error
use Rattle.gix_merge_base.specs.Bases.{IsCommon, AreBases, FindsBases, FailsBy}
use Rattle.gix_revwalk.specs.Agreeing.{IsAgreeing}
use Rattle.gix_revwalk.specs.Commits.{ReadsWhole, parents_of}

abbrev pub BasesExactly : Type 0
BasesExactly =
    (objects : Objects) (rows : List GraphRow) (one : ObjectId) (others bases : List ObjectId) → IsAgreeing objects rows →
    FindsBases objects rows one others bases → AreBases (parents_of objects) one others bases

abbrev pub BasesOfHistory : Type 0
BasesOfHistory =
    (history objects : Objects) (rows : List GraphRow) (one : ObjectId) (others bases : List ObjectId) →
    IsHistory objects rows history → IsAgreeing objects rows → FindsBases objects rows one others bases →
    AreBases (parents_of history) one others bases

abbrev pub RowsAgree : Type 0
RowsAgree =
    (history these those : Objects) (rows others_rows : List GraphRow) (one : ObjectId) (others bases found : List ObjectId) →
    IsHistory these rows history → IsAgreeing these rows → FindsBases these rows one others bases →
    IsHistory those others_rows history → IsAgreeing those others_rows → FindsBases those others_rows one others found →
    bases ≡ found

-- no two commits of some kind reach each other
abbrev pub IsAcyclicAmong : (ObjectId → List ObjectId) → (ObjectId → Type 0) → Type 0
IsAcyclicAmong parents Among =
    (i j : ObjectId) → Among i → Among j → Reaches parents (i ∷ []) j → Reaches parents (j ∷ []) i → i ≡ j

abbrev pub SomeBase : Type 0
SomeBase =
    (objects : Objects) (one : ObjectId) (others bases : List ObjectId) → AreBases (parents_of objects) one others bases →
    IsAcyclicAmong (parents_of objects) (IsCommon (parents_of objects) one others) →
    (i : ObjectId) → IsCommon (parents_of objects) one others i →
    (base : ObjectId) × Contains bases base × Reaches (parents_of objects) (base ∷ []) i

abbrev pub OneBase : Type 0
OneBase =
    (objects : Objects) (one : ObjectId) (others bases : List ObjectId) → AreBases (parents_of objects) one others bases →
    IsAcyclicAmong (parents_of objects) (IsCommon (parents_of objects) one others) →
    Reaches (parents_of objects) others one → (i : ObjectId) → Contains bases i ↔ (i ≡ one)

module _ {F : Type 0} (objects : F → Objects) (faulty : F → ObjectId → Type 0) where
  abbrev pub Succeeds : Type 0
  Succeeds =
      (store : F) (rows : List GraphRow) (one : ObjectId) (others : List ObjectId) (e : Error) → IsAgreeing (objects store) rows →
      ((i : ObjectId) → Reaches (parents_of (objects store)) (one ∷ others) i → ReadsWhole (objects store) i) →
      FailsBy (objects store) (faulty store) rows one others e → e ≡ error.Find existing.Store
