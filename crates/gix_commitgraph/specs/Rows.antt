-- The rows of a commit-graph.
use Rattle.std.specs.Prelude.{ℕ, ℤ, pos, List, [], ◌∷◌, Option, Some, None, slice_index_or, if◌then◌else◌}
use Rattle.gix_hash.specs.declared.ObjectId.{ObjectId}
use Rattle.gix_hash.specs.declared.ObjectId.TheVariants as id
use Rattle.gix_commitgraph.specs.declared.ParentPlace.{ParentPlace}
use Rattle.gix_hash.specs.Id.{is_same}

-- a row, seen without where it lies in memory
pub record GraphRow : Type 0 where
  pub id : ObjectId
  pub tree : ObjectId
  pub parents : List ParentPlace
  pub generation : ℕ
  pub time : ℤ

-- a row to put where there is none
abbrev pub no_row : GraphRow
no_row = record { id = id.Sha1 []; tree = id.Sha1 []; parents = []; generation = 0; time = pos 0 }

-- the row of a number
abbrev pub row_at : List GraphRow → ℕ → GraphRow
row_at rows n = slice_index_or rows n no_row

-- the first row of an id
abbrev pub row_of : List GraphRow → ObjectId → Option GraphRow
row_of [] i = None
row_of (row ∷ rows) i = if is_same i row.id then Some row else row_of rows i
