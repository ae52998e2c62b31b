-- What a painting of hidden tips marks, which rows it leaves, and why it fails.
use Rattle.std.specs.Prelude.{◌≡◌, ◌≢◌, ◌⊎◌, ◌<◌, ℕ, suc, List, [], ◌++◌, true, Some, None, Err, Contains, IsSome}
use Rattle.std.specs.FinMap as map_of
use Rattle.std.specs.FinSet as set
use Rattle.gix_hash.specs.declared.ObjectId.{ObjectId}
use Rattle.gix_object.specs.declared.Kind.TheVariants as object
use Rattle.gix_object.specs.CommitItems.{commit_items}
use Rattle.gix_object.specs.CommitRefIter.{first_committer}
use Rattle.gix_object.specs.CommitText.{Commit}
use Rattle.gix_object.specs.Find.{IsExistingFault}
use Rattle.gix_hash.specs.Id.{id_cmp, kind_of}
use Rattle.gix_object.specs.Object.{Objects}
use Rattle.gix_commitgraph.specs.Rows.{GraphRow, row_of}
use Rattle.gix_paint.specs.declared.Hidden.{Hidden}
use Rattle.gix_paint.specs.declared.Hidden.TheVariants as hidden_by
use Rattle.gix_revwalk.specs.Agreeing.{IsAgreeing, IsCorrupt}
use Rattle.gix_revwalk.specs.Infos.{generation_in}
use Rattle.gix_revwalk.specs.Commits.{parents_of, commit_at}
use Rattle.gix_hash.specs.Reach.{Reaches, IsAtBoundary}

-- why painting can't read the commit at an id: it isn't found, or has no committer that can be read
abbrev pub IsFaultAt : Objects → (ObjectId → Type 0) → ObjectId → Hidden → Type 0
IsFaultAt objects faulty i (hidden_by.Find e) = IsExistingFault objects faulty i object.Commit e
IsFaultAt objects faulty i (hidden_by.ObjectDecode e) =
    (bytes : List ℕ) × (map_of.get objects i ≡ Some (record { kind = object.Commit; bytes = bytes }))
    × (first_committer (commit_items (kind_of i) bytes) ≡ Err e)

-- Commits that the rows agree with, and of which the store says nothing else. A store that agrees with its rows is a history itself. It
-- may also lack commits of the history, have them broken, or fail at them.
pub record IsHistory (objects : Objects) (rows : List GraphRow) (history : Objects) : Type 0 where
  pub agreeing : IsAgreeing history rows
  pub read : (i : ObjectId) (commit : Commit) → commit_at objects i ≡ Some commit → commit_at history i ≡ Some commit

module _ (parents : ObjectId → List ObjectId) (rows : List GraphRow) (tips hidden_tips : List ObjectId) where
  -- An id at the boundary is open below a generation: whether it is hidden depends on commits of lesser generations alone. It is no hidden tip,
  -- and neither it nor a hidden commit that names it as a parent has this generation or a greater one.
  pub record IsOpenBelow (generation : ℕ) (i : ObjectId) : Type 0 where
    pub at_boundary : IsAtBoundary parents tips hidden_tips i
    pub no_tip : Contains hidden_tips i → ⊥
    pub below : generation_in (row_of rows i) < generation
    pub children_below : (c : ObjectId) → Reaches parents hidden_tips c → Contains (parents c) i → generation_in (row_of rows c) < generation

  -- The commits that painting has to read: what tips reach outside what is hidden, and what hidden tips reach of a generation below
  -- which an id at the boundary is open.
  pub data IsRead (i : ObjectId) (generation : ℕ) : Type 0 where
    shown_commit : Reaches parents tips i → (Reaches parents hidden_tips i → ⊥) → IsRead i generation
    hidden_commit : {bound : ObjectId} → Reaches parents hidden_tips i → IsOpenBelow generation bound → IsRead i generation

  -- a corrupt row that tips or hidden tips reach, where an id at the boundary is open below it, or at its generation
  pub record DropsBy : Type 0 where
    pub row : GraphRow
    pub present : row_of rows row.id ≡ Some row
    pub corrupt : IsCorrupt row
    pub reached : Reaches parents (tips ++ hidden_tips) row.id
    pub bound : ObjectId
    pub no_deeper : IsOpenBelow (suc row.generation) bound

  -- which ids a painting of this history marks, and which rows it leaves
  pub record PaintsHistory (marks : set.FinSet id_cmp) (left : List GraphRow) : Type 0 where
    -- only what hidden tips reach
    pub sound : (i : ObjectId) → set.contains marks i ≡ true → Reaches parents hidden_tips i
    -- each tip, and each parent of a commit that tips reach outside what is hidden
    pub whole : (i : ObjectId) → IsAtBoundary parents tips hidden_tips i → Reaches parents hidden_tips i → set.contains marks i ≡ true
    -- rows are dropped only for a corrupt one that isn't below what decides the marks
    pub drops : left ≢ rows → DropsBy
    -- rows are kept only if none that had to be read is corrupt
    pub keeps : left ≡ rows → (i : ObjectId) (row : GraphRow) → row_of rows i ≡ Some row → IsRead i row.generation → IsCorrupt row → ⊥

-- which ids a painting marks, and which rows it leaves
pub record Paints (objects : Objects) (old_rows : List GraphRow) (tips hidden_tips : List ObjectId) (marks : set.FinSet id_cmp) (rows : List GraphRow)
    : Type 0 where
  pub rows_left : (rows ≡ old_rows) ⊎ (rows ≡ [])
  -- each commit without a row that tips or hidden tips reach was read: all of them, where there are no rows
  pub rowless : (history : Objects) → IsHistory objects old_rows history → (i : ObjectId) → Reaches (parents_of history) (tips ++ hidden_tips) i
      → row_of old_rows i ≡ None → IsSome (commit_at objects i)
  -- where the rows agree with a history, the marks are its
  pub marked : (history : Objects) → IsHistory objects old_rows history → PaintsHistory (parents_of history) old_rows tips hidden_tips marks rows

-- A commit in the history of tips and hidden tips can't be read. One with a row is read from the store only if the rows were dropped, so
-- no commit is a fault that lies below what painting has to read.
pub record IsHiddenFault (objects : Objects) (faulty : ObjectId → Type 0) (rows : List GraphRow) (tips hidden_tips : List ObjectId) (why : Hidden)
    : Type 0 where
  pub id : ObjectId
  pub fault : IsFaultAt objects faulty id why
  pub reached : (history : Objects) → IsHistory objects rows history → Reaches (parents_of history) (tips ++ hidden_tips) id
  pub unrowed : (history : Objects) → IsHistory objects rows history → (row_of rows id ≡ None) ⊎ DropsBy (parents_of history) rows tips hidden_tips
