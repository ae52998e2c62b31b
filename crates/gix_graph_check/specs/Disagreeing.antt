-- What the check of rows against a store reports.
use Rattle.std.specs.Prelude.{◌≡◌, ◌<◌, ℕ, List, None, length}
use Rattle.gix_hash.specs.declared.ObjectId.{ObjectId}
use Rattle.gix_object.specs.Object.{Objects}
use Rattle.gix_object.specs.declared.find.existing_iter.Error.{Error as ExistingError}
use Rattle.gix_object.specs.declared.find.existing_iter.Error.TheVariants as existing
use Rattle.gix_commitgraph.specs.Rows.{GraphRow, row_at}
use Rattle.gix_revwalk.specs.Commits.{commit_at}
use Rattle.gix_revwalk.specs.Agreeing.{RowAgrees}
use Rattle.gix_graph_check.specs.declared.Disagreement.{Disagreement}
use Rattle.gix_graph_check.specs.declared.Disagreement.TheVariants.{Row, Store, Memory}

-- a store that failed is reported as such, and so is out of memory
abbrev pub of_look_up : ExistingError → ObjectId → Disagreement
of_look_up existing.Store i = Store i
of_look_up (existing.NotFound oid) i = Row i
of_look_up (existing.ObjectKind oid expected actual) i = Row i
of_look_up existing.Memory i = Memory

-- why no commit was read at an id
abbrev pub IsUnread : Objects → (ObjectId → Type 0) → ObjectId → Disagreement → Type 0
IsUnread objects faulty i (Row j) = (j ≡ i) × (commit_at objects i ≡ None)
IsUnread objects faulty i (Store j) = (j ≡ i) × faulty i
IsUnread objects faulty i Memory = Unit {0}

-- why the row of this number isn't known to agree
abbrev pub RowDisagrees : Objects → (ObjectId → Type 0) → List GraphRow → ℕ → Disagreement → Type 0
RowDisagrees objects faulty rows n (Row i) = ((row_at rows n).id ≡ i) × ¬ RowAgrees objects rows (row_at rows n)
RowDisagrees objects faulty rows n (Store i) = ((row_at rows n).id ≡ i) × faulty i
RowDisagrees objects faulty rows n Memory = Unit {0}

-- the first row that isn't known to agree, and why
pub record Disagrees (objects : Objects) (faulty : ObjectId → Type 0) (rows : List GraphRow) (why : Disagreement) : Type 0 where
  pub number : ℕ
  pub within : number < length rows
  pub disagrees : RowDisagrees objects faulty rows number why
  pub before : (n : ℕ) → n < number → RowAgrees objects rows (row_at rows n)
