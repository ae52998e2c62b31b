-- A commit as its text says it, and whether a row says the same.
use Rattle.std.specs.Prelude.{◌≡◌, ◌<◌, ◌^◌, ◌-◌, ℕ, List, [], ◌∷◌, Ok, Err}
use Rattle.gix_hash.specs.declared.ObjectId.{ObjectId}
use Rattle.gix_object.specs.CommitText.{Commit}
use Rattle.gix_commitgraph.specs.declared.ParentPlace.{ParentPlace}
use Rattle.gix_commitgraph.specs.declared.ParentPlace.TheVariants.{At, Fault}
use Rattle.gix_commitgraph.specs.Rows.{GraphRow}
use Rattle.gix_commitgraph.specs.Parents.{Answer}
use Rattle.gix_revwalk.specs.Agreeing.{PlaceAgrees}
use Rattle.gix_graph_check.specs.declared.stored.StoredCommit.{StoredCommit}

-- a commit, seen without where its parents lie in memory
abbrev pub commit_shown : StoredCommit → Commit
commit_shown stored = record { tree = stored.tree; parents = stored.parent_ids.items; time = stored.time }

-- a place that was read agrees with a parent
abbrev pub AnswerAgrees : List GraphRow → ℕ → ObjectId → Answer → Type 0
AnswerAgrees rows generation i (Ok position) = PlaceAgrees rows generation i (At position.0)
AnswerAgrees rows generation i (Err fault) = PlaceAgrees rows generation i Fault

-- a place for each parent, which agrees with it
abbrev pub PlacesAgree : List GraphRow → ℕ → List ObjectId → List ParentPlace → Type 0
PlacesAgree rows generation [] [] = Unit {0}
PlacesAgree rows generation [] (place ∷ places) = ⊥
PlacesAgree rows generation (i ∷ ids) [] = ⊥
PlacesAgree rows generation (i ∷ ids) (place ∷ places) = PlaceAgrees rows generation i place × PlacesAgree rows generation ids places

-- the row says what the commit does
pub record AgreesWith (rows : List GraphRow) (row : GraphRow) (commit : Commit) : Type 0 where
  pub tree : commit.tree ≡ row.tree
  pub time : commit.time ≡ row.time
  pub places : PlacesAgree rows row.generation commit.parents row.parents
  pub finite : row.generation < 2 ^ 32 - 1
