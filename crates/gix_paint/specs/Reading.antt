-- How a search reads commits: by their rows as long as these are in use, and else from the store.
use Rattle.std.specs.Prelude.{◌≡◌, ◌≢◌, ◌⊎◌, List, [], Bool, true, false, Some, None}
use Rattle.gix_hash.specs.declared.ObjectId.{ObjectId}
use Rattle.gix_object.specs.declared.find.existing_iter.Error.TheVariants as existing
use Rattle.gix_object.specs.CommitText.{Commit}
use Rattle.gix_object.specs.Object.{Objects}
use Rattle.gix_commitgraph.specs.Rows.{GraphRow, row_of}
use Rattle.gix_paint.specs.declared.Hidden.{Hidden}
use Rattle.gix_paint.specs.declared.Hidden.TheVariants as hidden_by
use Rattle.gix_paint.specs.Painting.{IsFaultAt}
use Rattle.gix_revwalk.specs.Commits.{commit_at}
use Rattle.gix_revwalk.specs.Reading.{DropsRows}
use Rattle.gix_revwalk.specs.RowParents.{ids_at}

-- a commit that the store has whole, and its parents
abbrev pub Reads : Objects → ObjectId → List ObjectId → Type 0
Reads objects i ids = (commit : Commit) × (commit_at objects i ≡ Some commit) × (ids ≡ commit.parents)

-- out of memory, or the commit of an id can't be read
abbrev pub FailsAt : Objects → (ObjectId → Type 0) → ObjectId → Hidden → Type 0
FailsAt objects faulty i why = why ≢ hidden_by.Find existing.Memory → IsFaultAt objects faulty i why

-- no row is looked at for the id: it has none, or rows aren't in use
abbrev pub IsRowless : List GraphRow → Bool → ObjectId → Type 0
IsRowless rows in_use i = (row_of rows i ≡ None) ⊎ (in_use ≡ false)

-- no row is read for the id: it has none, or rows aren't in use, or its row is corrupt
abbrev pub IsPassed : List GraphRow → Bool → ObjectId → Type 0
IsPassed rows in_use i = (row_of rows i ≡ None) ⊎ (in_use ≡ false) ⊎ DropsRows rows i

-- the parents by the row, or else from the store, and whether rows are in use then
pub data ReadsParents (objects : Objects) (rows : List GraphRow) (in_use : Bool) (i : ObjectId) (ids : List ObjectId) : Bool → Type 0 where
  by_row : {row : GraphRow} → in_use ≡ true → row_of rows i ≡ Some row → ids_at rows row.parents ≡ Some ids → ReadsParents objects rows in_use i ids in_use
  by_store : IsRowless rows in_use i → Reads objects i ids → ReadsParents objects rows in_use i ids in_use
  drops : in_use ≡ true → DropsRows rows i → Reads objects i ids → ReadsParents objects rows in_use i ids false

-- out of memory, or an id can't be read of which no row is read
abbrev pub ReadFails : Objects → (ObjectId → Type 0) → List GraphRow → Bool → ObjectId → Hidden → Type 0
ReadFails objects faulty rows in_use i why = why ≢ hidden_by.Find existing.Memory → IsPassed rows in_use i × IsFaultAt objects faulty i why
