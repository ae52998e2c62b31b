-- What a row says, and what bytes of an object say.
use Rattle.std.specs.Prelude.{◌≡◌, ℕ, List, Some}
use Rattle.gix_hash.specs.declared.ObjectId.{ObjectId}
use Rattle.gix_object.specs.declared.Kind.{Kind}
use Rattle.gix_object.specs.CommitText.{Commit}
use Rattle.gix_commitgraph.specs.Rows.{GraphRow}
use Rattle.gix_revwalk.specs.Commits.{commit_of_kind}
use Rattle.gix_graph_store.specs.Laws.{commit_said}

-- the row says this commit
abbrev pub Says : List GraphRow → GraphRow → Commit → Type 0
Says rows row commit = commit_said rows (Some row) ≡ Some commit

-- the object is a commit, and the one that the row says
abbrev pub IsSaid : List GraphRow → GraphRow → ObjectId → Kind → List ℕ → Type 0
IsSaid rows row i kind bytes = (commit : Commit) × (commit_of_kind i kind bytes ≡ Some commit) × Says rows row commit
