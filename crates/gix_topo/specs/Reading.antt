-- How a topological walk reads a commit: by its row as long as rows are in use, or else from the store.
use Rattle.std.specs.Prelude.{◌≡◌, ◌≢◌, ℕ, ℤ, pos, nat_lt, List, Bool, true, if◌then◌else◌, Option, Some, None, Result, Ok, Err}
use Rattle.std.specs.FinMap as map_of
use Rattle.gix_hash.specs.declared.ObjectId.{ObjectId}
use Rattle.gix_object.specs.declared.Kind.TheVariants as object
use Rattle.gix_object.specs.declared.decode.Error.{Error as DecodeError}
use Rattle.gix_object.specs.declared.decode.Error.TheVariants as fault
use Rattle.gix_hash.specs.Id.{kind_of}
use Rattle.gix_object.specs.Object.{Objects}
use Rattle.gix_object.specs.CommitItems.{Item, commit_items}
use Rattle.gix_object.specs.CommitRefIter.{first_committer}
use Rattle.gix_object.specs.CommitText.{seconds_of}
use Rattle.gix_object.specs.Find.{IsExistingFault}
use Rattle.gix_commitgraph.specs.Rows.{GraphRow}
use Rattle.gix_revwalk.specs.declared.Parents.TheVariants as mode
use Rattle.gix_revwalk.specs.declared.Info.{Info}
use Rattle.gix_topo.specs.declared.Error.{Error}
use Rattle.gix_topo.specs.declared.Error.TheVariants as error
use Rattle.gix_revwalk.specs.declared.row.RowRead.{RowRead}
use Rattle.gix_revwalk.specs.Infos.{IsInfo}
use Rattle.gix_revwalk.specs.Texts.{scanned}
use Rattle.gix_topo.specs.Depth.{infinity, known_generation}
use Rattle.gix_revwalk.specs.Reading.{ReadsRow}
use Rattle.gix_revwalk.specs.RowParents.{IsUnrowed}

-- a row's generation, and none where it is infinity
abbrev pub told_generation : ℕ → Option ℕ
told_generation generation = if nat_lt generation infinity then Some generation else None

-- the time of a committer, if there is one
abbrev pub time_of_committer : Result (List ℕ) DecodeError → ℤ
time_of_committer (Ok signature) = seconds_of signature
time_of_committer (Err e) = pos 0

-- a commit whose items these are, as far as its committer
abbrev pub IsOfItems : ObjectId → List (Result Item DecodeError) → Info → Type 0
IsOfItems i items info =
    IsInfo info i (scanned mode.All items).0 None (Some (time_of_committer (first_committer items)))
    × ((e : DecodeError) → first_committer items ≡ Err e → e ≡ fault.Missing)

-- why a commit can't be read
abbrev pub IsReadFault : Objects → (ObjectId → Type 0) → ObjectId → Error → Type 0
IsReadFault objects faulty i error.MissingIndegreeUnexpected = ⊥
IsReadFault objects faulty i error.MissingStateUnexpected = ⊥
IsReadFault objects faulty i (error.ObjectDecode e) =
    (bytes : List ℕ) × (map_of.get objects i ≡ Some (record { kind = object.Commit; bytes = bytes }))
    × (first_committer (commit_items (kind_of i) bytes) ≡ Err e) × (e ≡ fault.Missing → ⊥)
IsReadFault objects faulty i (error.Find e) = IsExistingFault objects faulty i object.Commit e
IsReadFault objects faulty i error.Memory = Unit {0}

-- no row of the commit is in use: the rows were dropped, or it has none, or a corrupt one
abbrev pub HasNoRowInUse : List GraphRow → Bool → ObjectId → Type 0
HasNoRowInUse rows in_use i = in_use ≡ true → IsUnrowed rows i

-- why reading a commit fails: the store can't give it, and is asked only where no row of the commit is in use
abbrev pub ReadFails : Objects → (ObjectId → Type 0) → List GraphRow → Bool → ObjectId → Error → Type 0
ReadFails objects faulty rows in_use i e = IsReadFault objects faulty i e × (e ≢ error.Memory → HasNoRowInUse rows in_use i)

-- why looking a parent up fails: the store can't give it, and is asked only where no row in use says a finite generation
abbrev pub LookUpFails : Objects → (ObjectId → Type 0) → List GraphRow → Bool → ObjectId → Error → Type 0
LookUpFails objects faulty rows in_use i e = IsReadFault objects faulty i e × (in_use ≡ true → known_generation rows i ≡ infinity)

-- what reading a commit from the store answers
abbrev pub ReadsText : Objects → (ObjectId → Type 0) → ObjectId → Result Info Error → Type 0
ReadsText objects faulty i (Ok info) =
    (bytes : List ℕ) × (map_of.get objects i ≡ Some (record { kind = object.Commit; bytes = bytes })) × IsOfItems i (commit_items (kind_of i) bytes) info
ReadsText objects faulty i (Err e) = IsReadFault objects faulty i e

-- what reading a commit answers, and whether the rows are in use then
pub data Reads (objects : Objects) (faulty : ObjectId → Type 0) (rows : List GraphRow) (in_use : Bool) (i : ObjectId) : Result Info Error → Bool
    → Type 0 where
  by_row : {read : RowRead} {info : Info} {new : Bool} → ReadsRow rows in_use i (Some read) new
      → IsInfo info i read.parent_ids.items (told_generation read.generation) (Some read.time) → Reads objects faulty rows in_use i (Ok info) new
  by_text : {answer : Result Info Error} {new : Bool} → ReadsRow rows in_use i None new → ReadsText objects faulty i answer
      → Reads objects faulty rows in_use i answer new
  no_memory : {new : Bool} → Reads objects faulty rows in_use i (Err error.Memory) new
