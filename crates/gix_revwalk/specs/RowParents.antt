-- The parents that rows name, and what is left of rows of which one is corrupt.
use Rattle.std.specs.Prelude.{◌≡◌, List, [], ◌∷◌, Option, Some, None, slice_get}
use Rattle.gix_hash.specs.declared.ObjectId.{ObjectId}
use Rattle.gix_commitgraph.specs.declared.ParentPlace.{ParentPlace}
use Rattle.gix_commitgraph.specs.declared.ParentPlace.TheVariants.{At, Fault}
use Rattle.gix_commitgraph.specs.Rows.{GraphRow, row_of}

-- the ids at a row's places, where none is corrupt
abbrev pub with_id : Option GraphRow → Option (List ObjectId) → Option (List ObjectId)
with_id None ids = None
with_id (Some row) None = None
with_id (Some row) (Some ids) = Some (row.id ∷ ids)

abbrev pub ids_at : List GraphRow → List ParentPlace → Option (List ObjectId)
ids_at rows [] = Some []
ids_at rows (Fault ∷ places) = None
ids_at rows (At n ∷ places) = with_id (slice_get rows n) (ids_at rows places)

-- the id has no row, or a corrupt one
abbrev pub IsUnrowed : List GraphRow → ObjectId → Type 0
IsUnrowed rows i = (row : GraphRow) → row_of rows i ≡ Some row → ids_at rows row.parents ≡ None

-- the rows, or none where these ids couldn't be read
abbrev pub rows_if : List GraphRow → Option (List ObjectId) → List GraphRow
rows_if rows None = []
rows_if rows (Some ids) = rows

-- the rows, or none where the row of this id is corrupt
abbrev pub kept_rows : List GraphRow → Option GraphRow → List GraphRow
kept_rows rows None = rows
kept_rows rows (Some row) = rows_if rows (ids_at rows row.parents)
