-- Which commits are contained in others, and why this isn't known.
use Rattle.std.specs.Prelude.{◌≡◌, ◌≢◌, ◌⊎◌, ◌≤◌, List, [], ◌∷◌, ◌++◌, Some, None, Contains, IsSome}
use Rattle.gix_hash.specs.declared.ObjectId.{ObjectId}
use Rattle.gix_hash.specs.Reach.{Reaches}
use Rattle.gix_object.specs.declared.find.existing_iter.Error.{Error as ExistingError}
use Rattle.gix_object.specs.declared.find.existing_iter.Error.TheVariants as existing
use Rattle.gix_object.specs.Object.{Objects}
use Rattle.gix_commitgraph.specs.Rows.{GraphRow, row_of}
use Rattle.gix_contained.specs.declared.Error.{Error}
use Rattle.gix_contained.specs.declared.Error.TheVariants as error
use Rattle.gix_paint.specs.declared.Hidden.{Hidden}
use Rattle.gix_paint.specs.declared.Hidden.TheVariants as hidden_by
use Rattle.gix_revwalk.specs.Infos.{generation_in}
use Rattle.gix_paint.specs.Painting.{IsFaultAt, IsHistory}
use Rattle.gix_revwalk.specs.Agreeing.{IsCorrupt}
use Rattle.gix_revwalk.specs.Commits.{commit_at, parents_of}

-- of ids, in order and with repeats, those that tips reach
pub data AreContained (parents : ObjectId → List ObjectId) (tips : List ObjectId) : List ObjectId → List ObjectId → Type 0 where
  empty : AreContained parents tips [] []
  reached : {i : ObjectId} {ids those : List ObjectId} → Reaches parents tips i → AreContained parents tips ids those → AreContained parents tips (i ∷ ids) (i ∷ those)
  passed : {i : ObjectId} {ids those : List ObjectId} → (Reaches parents tips i → ⊥) → AreContained parents tips ids those → AreContained parents tips (i ∷ ids) those

-- What an answer says of the histories that agree with the rows, and of which the store has a part. Without tips or ids nothing is read.
pub record Selects (objects : Objects) (rows : List GraphRow) (tips ids those : List ObjectId) : Type 0 where
  pub exact : (history : Objects) → IsHistory objects rows history → AreContained (parents_of history) tips ids those
  -- each id and each tip without a row was read
  pub read : (history : Objects) → IsHistory objects rows history → tips ≢ [] → ids ≢ [] → (i : ObjectId) → Contains (ids ++ tips) i
      → row_of rows i ≡ None → IsSome (commit_at objects i)
  -- and, where one of the ids isn't contained, each commit without a row that the tips reach: all of them, where there are no rows
  pub read_all : (history : Objects) → IsHistory objects rows history → tips ≢ [] → (a : ObjectId) → Contains ids a
      → (Reaches (parents_of history) tips a → ⊥) → (i : ObjectId) → Reaches (parents_of history) tips i → row_of rows i ≡ None
      → IsSome (commit_at objects i)

-- Why rows are dropped: for a corrupt one that the tips reach, whose generation isn't below that of each id.
pub record DropsBy (parents : ObjectId → List ObjectId) (rows : List GraphRow) (tips ids : List ObjectId) : Type 0 where
  pub row : GraphRow
  pub present : row_of rows row.id ≡ Some row
  pub corrupt : IsCorrupt row
  pub reached : Reaches parents tips row.id
  pub bound : ObjectId
  pub asked : Contains ids bound
  pub no_deeper : generation_in (row_of rows bound) ≤ row.generation

-- A commit that has to be read can't be: one of the ids, or one that the tips reach. One with a row is read from the store only if the rows
-- were dropped.
pub record IsContainedFault (objects : Objects) (faulty : ObjectId → Type 0) (rows : List GraphRow) (tips ids : List ObjectId) (why : Hidden)
    : Type 0 where
  pub id : ObjectId
  pub fault : IsFaultAt objects faulty id why
  pub reached : (history : Objects) → IsHistory objects rows history → Contains ids id ⊎ Reaches (parents_of history) tips id
  pub unrowed : (history : Objects) → IsHistory objects rows history → (row_of rows id ≡ None) ⊎ DropsBy (parents_of history) rows tips ids

abbrev pub error_of_find : ExistingError → Error
error_of_find existing.Memory = error.Memory
error_of_find existing.Store = error.Find existing.Store
error_of_find (existing.NotFound oid) = error.Find (existing.NotFound oid)
error_of_find (existing.ObjectKind oid expected actual) = error.Find (existing.ObjectKind oid expected actual)

abbrev pub error_of : Hidden → Error
error_of (hidden_by.Find e) = error_of_find e
error_of (hidden_by.ObjectDecode e) = error.ObjectDecode e

-- the error is that of a commit which has to be read and can't be
abbrev pub FailsBy : Objects → (ObjectId → Type 0) → List GraphRow → List ObjectId → List ObjectId → Error → Type 0
FailsBy objects faulty rows tips ids e = (why : Hidden) × IsContainedFault objects faulty rows tips ids why × (e ≡ error_of why)
