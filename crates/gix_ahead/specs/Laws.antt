-- The statements of the laws.
use Rattle.std.specs.Prelude.{◌≡◌, ℕ, List, [], ◌∷◌}
use Rattle.gix_hash.specs.declared.ObjectId.{ObjectId}
use Rattle.gix_hash.specs.Reach.{Reaches}
use Rattle.gix_object.specs.declared.find.existing_iter.Error.TheVariants as existing
use Rattle.gix_object.specs.Object.{Objects}
use Rattle.gix_commitgraph.specs.Rows.{GraphRow}
use Rattle.gix_ahead.specs.Ahead.{IsAhead, FindsAhead, FailsBy}
use Rattle.gix_contained.specs.declared.Error.{Error}
use Rattle.gix_contained.specs.declared.Error.TheVariants as error
use Rattle.gix_paint.specs.Painting.{IsHistory}
use Rattle.gix_revwalk.specs.Agreeing.{IsAgreeing}
use Rattle.gix_revwalk.specs.Commits.{ReadsWhole, parents_of}

abbrev pub AheadOfHistory : Type 0
AheadOfHistory =
    (history objects : Objects) (rows : List GraphRow) (one other : ObjectId) (ahead behind : ℕ) →
    IsHistory objects rows history → IsAgreeing objects rows → FindsAhead objects rows one other ahead behind →
    IsAhead (parents_of history) one other ahead × IsAhead (parents_of history) other one behind

abbrev pub RowsAgree : Type 0
RowsAgree =
    (history these those : Objects) (rows others_rows : List GraphRow) (one other : ObjectId) (ahead behind before after : ℕ) →
    IsHistory these rows history → IsAgreeing these rows → FindsAhead these rows one other ahead behind →
    IsHistory those others_rows history → IsAgreeing those others_rows → FindsAhead those others_rows one other before after →
    (ahead ≡ before) × (behind ≡ after)

module _ {F : Type 0} (objects : F → Objects) (faulty : F → ObjectId → Type 0) where
  abbrev pub Succeeds : Type 0
  Succeeds =
      (store : F) (rows : List GraphRow) (one other : ObjectId) (e : Error) → IsAgreeing (objects store) rows →
      ((i : ObjectId) → Reaches (parents_of (objects store)) (one ∷ other ∷ []) i → ReadsWhole (objects store) i) →
      FailsBy (objects store) (faulty store) rows one (other ∷ []) e → e ≡ error.Find existing.Store
