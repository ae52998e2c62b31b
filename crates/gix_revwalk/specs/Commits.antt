-- What a store says of commits.
use Rattle.std.specs.Prelude.{◌≡◌, ℕ, List, [], ◌∷◌, ℤ, pos, Option, Some, None}
use Rattle.std.specs.FinMap.{get}
use Rattle.gix_hash.specs.declared.ObjectId.{ObjectId}
use Rattle.gix_object.specs.declared.Kind.{Kind}
use Rattle.gix_object.specs.declared.Kind.TheVariants as kind
use Rattle.gix_hash.specs.Id.{kind_of}
use Rattle.gix_object.specs.Object.{Object, Objects}
use Rattle.gix_object.specs.CommitText.{Commit, read_commit}
use Rattle.gix_revwalk.specs.declared.Parents.{Parents}
use Rattle.gix_revwalk.specs.declared.Parents.TheVariants as mode

abbrev pub commit_of_kind : ObjectId → Kind → List ℕ → Option Commit
commit_of_kind i kind.Commit bytes = read_commit (kind_of i) bytes
commit_of_kind i kind.Tree bytes = None
commit_of_kind i kind.Blob bytes = None
commit_of_kind i kind.Tag bytes = None

abbrev pub commit_of_object : ObjectId → Option Object → Option Commit
commit_of_object i None = None
commit_of_object i (Some object) = commit_of_kind i object.kind object.bytes

-- the commit that is stored at an id, where its bytes are the text of one
abbrev pub commit_at : Objects → ObjectId → Option Commit
commit_at objects i = commit_of_object i (get objects i)

-- the id is stored as a commit, and its bytes are the text of one
pub record ReadsWhole (objects : Objects) (i : ObjectId) : Type 0 where
  pub commit : Commit
  pub stored : commit_at objects i ≡ Some commit

abbrev pub parents_in : Option Commit → List ObjectId
parents_in None = []
parents_in (Some commit) = commit.parents

abbrev pub time_in : Option Commit → ℤ
time_in None = pos 0
time_in (Some commit) = commit.time

-- the parents of a commit, in order and with repeats; none where no commit can be read
abbrev pub parents_of : Objects → ObjectId → List ObjectId
parents_of objects i = parents_in (commit_at objects i)

-- the committer's seconds
abbrev pub time_of : Objects → ObjectId → ℤ
time_of objects i = time_in (commit_at objects i)

-- all parents, or the first alone
abbrev pub by_mode : Parents → List ObjectId → List ObjectId
by_mode mode.All ids = ids
by_mode mode.First [] = []
by_mode mode.First (i ∷ ids) = i ∷ []

-- the parents that are walked
abbrev pub walked_parents : Objects → Parents → ObjectId → List ObjectId
walked_parents objects m i = by_mode m (parents_of objects i)

-- a pending commit whose committer has this time
pub record HasTime (objects : Objects) (i : ObjectId) (time : ℤ) : Type 0 where
  pub commit : Commit
  pub stored : commit_at objects i ≡ Some commit
  pub same : commit.time ≡ time
