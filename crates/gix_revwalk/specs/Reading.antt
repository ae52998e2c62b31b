-- How walks read a commit: by its row as long as rows are in use, or else from the store.
use Rattle.std.specs.Prelude.{◌≡◌, ℕ, ℤ, List, [], if◌then◌else◌, Bool, true, false, Option, Some, None, Result, Ok, Err, IfOk, IfErr}
use Rattle.std.specs.FinMap as map_of
use Rattle.gix_hash.specs.declared.ObjectId.{ObjectId}
use Rattle.gix_object.specs.declared.Kind.TheVariants as object
use Rattle.gix_hash.specs.Id.{kind_of}
use Rattle.gix_object.specs.Object.{Objects}
use Rattle.gix_object.specs.CommitItems.{commit_items}
use Rattle.gix_object.specs.declared.decode.Error.{Error as DecodeError}
use Rattle.gix_object.specs.CommitRefIter.{first_committer}
use Rattle.gix_commitgraph.specs.Rows.{GraphRow, row_of}
use Rattle.gix_revwalk.specs.declared.Parents.TheVariants as mode
use Rattle.gix_revwalk.specs.declared.read.Header.{Header}
use Rattle.gix_revwalk.specs.declared.row.RowRead.{RowRead}
use Rattle.gix_revwalk.specs.declared.source.Source.{Source}
use Rattle.gix_revwalk.specs.Either.{seconds_told}
use Rattle.gix_revwalk.specs.Texts.{scanned}
use Rattle.gix_revwalk.specs.RowParents.{ids_at}
pub use Rattle.gix_revwalk.specs.Agreeing.{rows_of}

-- the rows, while they are in use
abbrev pub rows_used : {F : Type 0} → Source F → List GraphRow
rows_used source = if source.in_use then rows_of source.graph else []

-- what a row without a fault says of its commit
pub record RowSays (rows : List GraphRow) (i : ObjectId) (read : RowRead) : Type 0 where
  pub row : GraphRow
  pub there : row_of rows i ≡ Some row
  pub parents : ids_at rows row.parents ≡ Some read.parent_ids.items
  pub generation : read.generation ≡ row.generation
  pub time : read.time ≡ row.time

-- the row of the id is corrupt
abbrev pub DropsRows : List GraphRow → ObjectId → Type 0
DropsRows rows i = (row : GraphRow) × (row_of rows i ≡ Some row) × (ids_at rows row.parents ≡ None)

-- what reading a row gives, and whether the rows are in use then: a corrupt row drops them for good
pub data ReadsRow (rows : List GraphRow) (in_use : Bool) (i : ObjectId) : Option RowRead → Bool → Type 0 where
  is_read : {read : RowRead} → in_use ≡ true → RowSays rows i read → ReadsRow rows in_use i (Some read) in_use
  absent : row_of rows i ≡ None → ReadsRow rows in_use i None in_use
  corrupt : in_use ≡ true → DropsRows rows i → ReadsRow rows in_use i None false
  dropped : in_use ≡ false → ReadsRow rows in_use i None in_use

-- the parents and the committer of the commit that is stored at an id
pub record IsFrontAt (objects : Objects) (i : ObjectId) (ids : List ObjectId) (committer : Result (List ℕ) DecodeError) : Type 0 where
  pub bytes : List ℕ
  pub stored : map_of.get objects i ≡ Some (record { kind = object.Commit; bytes = bytes })
  pub parents : ids ≡ (scanned mode.All (commit_items (kind_of i) bytes)).0
  pub told : committer ≡ first_committer (commit_items (kind_of i) bytes)

-- its parents, if it has a committer, and else the first fault
pub record ReadsParentIds (objects : Objects) (i : ObjectId) (read : Result (List ObjectId) DecodeError) : Type 0 where
  pub bytes : List ℕ
  pub stored : map_of.get objects i ≡ Some (record { kind = object.Commit; bytes = bytes })
  pub parents : IfOk read (λ ids. ids ≡ (scanned mode.All (commit_items (kind_of i) bytes)).0)
  pub committer : IfOk read (λ ids. (signature : List ℕ) × (first_committer (commit_items (kind_of i) bytes) ≡ Ok signature))
  pub fault : IfErr read (λ e. first_committer (commit_items (kind_of i) bytes) ≡ Err e)

-- a header is that of the commit that is stored at an id
pub record ReadsHeader (objects : Objects) (i : ObjectId) (header : Header) : Type 0 where
  pub bytes : List ℕ
  pub stored : map_of.get objects i ≡ Some (record { kind = object.Commit; bytes = bytes })
  pub parents : header.parent_ids.items ≡ (scanned mode.All (commit_items (kind_of i) bytes)).0
  pub time : header.time ≡ seconds_told (first_committer (commit_items (kind_of i) bytes))

-- a time is that of the commit that is stored at an id
pub record ReadsSeconds (objects : Objects) (i : ObjectId) (time : Result ℤ DecodeError) : Type 0 where
  pub bytes : List ℕ
  pub stored : map_of.get objects i ≡ Some (record { kind = object.Commit; bytes = bytes })
  pub told : time ≡ seconds_told (first_committer (commit_items (kind_of i) bytes))
