-- What differs between a row and its commit.
use Rattle.std.specs.Prelude.{◌≡◌, ◌≢◌, ℕ, List, Option, Some, None}
use Rattle.gix_hash.specs.declared.ObjectId.{ObjectId}
use Rattle.gix_hash.specs.Id.{kind_of}
use Rattle.gix_object.specs.declared.Kind.{Kind}
use Rattle.gix_object.specs.declared.Kind.TheVariants as kind
use Rattle.gix_object.specs.CommitText.{Commit, read_commit}
use Rattle.gix_names.specs.Named.{IsNamed}
use Rattle.gix_commitgraph.specs.Rows.{GraphRow, row_of}
use Rattle.gix_revwalk.specs.Commits.{commit_of_kind}
use Rattle.gix_graph_check.specs.Sound.{IsSound}
use Rattle.gix_graph_check.specs.StoredCommits.{PlacesAgree, AgreesWith}
use Rattle.gix_graph_verify.specs.declared.difference.Difference.{Difference}
use Rattle.gix_graph_verify.specs.declared.difference.Difference.TheVariants.{Hash, Unsound, Missing, Misnamed, NotACommit, Tree, Time, Parents}

-- the id is that of a text, and the text that of a commit
pub record IsNamedCommit (i : ObjectId) (commit : Commit) : Type 0 where
  pub bytes : List ℕ
  pub named : IsNamed i kind.Commit bytes
  pub read : read_commit (kind_of i) bytes ≡ Some commit

-- the id is that of an object that is no commit, or can't be read to its committer
pub record IsNamedOther (i : ObjectId) : Type 0 where
  pub kind : Kind
  pub bytes : List ℕ
  pub named : IsNamed i kind bytes
  pub unread : commit_of_kind i kind bytes ≡ None

-- the row agrees with a commit that is what its id says
pub record IsBacked (rows : List GraphRow) (row : GraphRow) : Type 0 where
  pub commit : Commit
  pub named : IsNamedCommit row.id commit
  pub agrees : AgreesWith rows row commit

-- what is wrong with a row; where nothing is stored, or another object, nothing more is known
abbrev pub IsDifference : List GraphRow → GraphRow → Difference → Type 0
IsDifference rows row (Hash n) = ⊥
IsDifference rows row (Unsound i) = (i ≡ row.id) × ¬ IsSound rows row
IsDifference rows row (Missing i) = i ≡ row.id
IsDifference rows row (Misnamed i) = i ≡ row.id
IsDifference rows row (NotACommit i) = (i ≡ row.id) × IsNamedOther i
IsDifference rows row (Tree i) = (i ≡ row.id) × ((commit : Commit) × IsNamedCommit i commit × (commit.tree ≢ row.tree))
IsDifference rows row (Time i) = (i ≡ row.id) × ((commit : Commit) × IsNamedCommit i commit × (commit.time ≢ row.time))
IsDifference rows row (Parents i) =
    (i ≡ row.id) × ((commit : Commit) × IsNamedCommit i commit × ¬ PlacesAgree rows row.generation commit.parents row.parents)

-- what is said of a sound row that is compared with its object
abbrev pub IsAnswer : List GraphRow → GraphRow → Option Difference → Type 0
IsAnswer rows row None = IsBacked rows row
IsAnswer rows row (Some d) = IsDifference rows row d

-- nothing is wrong with a row: it is sound, and if it isn't one of the lower rows, it agrees with its commit
pub record IsRight (rows lower : List GraphRow) (row : GraphRow) : Type 0 where
  pub sound : IsSound rows row
  pub backed : row_of lower row.id ≡ None → IsBacked rows row

-- what is said of a row
abbrev pub IsSaid : List GraphRow → List GraphRow → GraphRow → Option Difference → Type 0
IsSaid rows lower row None = IsRight rows lower row
IsSaid rows lower row (Some d) = IsDifference rows row d

-- the first that differs of a row and a commit that don't agree
abbrev pub Differs : ObjectId → GraphRow → Commit → Difference → Type 0
Differs own row commit (Hash n) = ⊥
Differs own row commit (Unsound i) = ⊥
Differs own row commit (Missing i) = ⊥
Differs own row commit (Misnamed i) = ⊥
Differs own row commit (NotACommit i) = ⊥
Differs own row commit (Tree i) = (i ≡ own) × (commit.tree ≢ row.tree)
Differs own row commit (Time i) = (i ≡ own) × (commit.time ≢ row.time)
Differs own row commit (Parents i) = (i ≡ own) × (commit.tree ≡ row.tree) × (commit.time ≡ row.time)
