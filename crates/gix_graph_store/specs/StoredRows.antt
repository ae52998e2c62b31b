-- What is stored at the ids of rows, and what the rows say.
use Rattle.std.specs.Prelude.{◌≡◌, ◌<◌, ℕ, List, Some, length}
use Rattle.std.specs.FinMap.{get}
use Rattle.gix_hash.specs.declared.ObjectId.{ObjectId}
use Rattle.gix_object.specs.Object.{Object, Objects}
use Rattle.gix_object.specs.declared.find.Error.{Error as FindError}
use Rattle.gix_object.specs.declared.find.Error.TheVariants as find
use Rattle.gix_object.specs.CommitText.{Commit}
use Rattle.gix_commitgraph.specs.Rows.{GraphRow, row_at, row_of}
use Rattle.gix_revwalk.specs.Commits.{commit_at}
use Rattle.gix_graph_check.specs.declared.Disagreement.{Disagreement}
use Rattle.gix_graph_check.specs.declared.Disagreement.TheVariants.{Row, Store, Memory}
use Rattle.gix_graph_store.specs.Laws.{commit_said}

-- what is stored at the row's id, if anything is, is a commit, and the one that the row says
abbrev pub IsStoredSo : List GraphRow → Objects → GraphRow → Type 0
IsStoredSo rows objects row = (object : Object) → get objects row.id ≡ Some object
    → (commit : Commit) × (commit_at objects row.id ≡ Some commit) × (commit_said rows (Some row) ≡ Some commit)

-- the same of the row of an id, if it has one
abbrev pub IsStoredAt : List GraphRow → Objects → ObjectId → Type 0
IsStoredAt rows objects i = (row : GraphRow) → row_of rows i ≡ Some row → IsStoredSo rows objects row

-- a store that failed is reported as such, and so is out of memory
abbrev pub of_look_up : FindError → ObjectId → Disagreement
of_look_up find.Store i = Store i
of_look_up find.Memory i = Memory

-- why it isn't known of a row
abbrev pub IsNotStoredSo : Objects → (ObjectId → Type 0) → List GraphRow → GraphRow → Disagreement → Type 0
IsNotStoredSo objects faulty rows row (Row i) = (row.id ≡ i) × ¬ IsStoredSo rows objects row
IsNotStoredSo objects faulty rows row (Store i) = (row.id ≡ i) × faulty i
IsNotStoredSo objects faulty rows row Memory = Unit {0}

-- the first row of which it isn't known, and why
pub record StoredDisagrees (objects : Objects) (faulty : ObjectId → Type 0) (rows : List GraphRow) (why : Disagreement) : Type 0 where
  pub number : ℕ
  pub within : number < length rows
  pub disagrees : IsNotStoredSo objects faulty rows (row_at rows number) why
  pub before : (n : ℕ) → n < number → IsStoredSo rows objects (row_at rows n)
