-- The rows of a commit-graph that say what the store says, except for places that are corrupt.
use Rattle.std.specs.Borrow.{Bor}
use Rattle.std.specs.Prelude.{◌≡◌, ◌<◌, ◌^◌, ◌-◌, ℕ, List, [], Contains, Option, Some, None, slice_get, length}
use Rattle.gix_hash.specs.declared.ObjectId.{ObjectId}
use Rattle.gix_commitgraph.specs.declared.ParentPlace.{ParentPlace}
use Rattle.gix_commitgraph.specs.declared.ParentPlace.TheVariants.{At, Fault}
use Rattle.gix_object.specs.Object.{Objects}
use Rattle.gix_commitgraph.specs.Rows.{GraphRow, row_of}
use Rattle.gix_revwalk.specs.Commits.{ReadsWhole}

-- the rows of a graph, or none
abbrev pub rows_of : Option (List GraphRow) → List GraphRow
rows_of None = []
rows_of (Some rows) = rows

-- the rows of a graph that is lent, or none
abbrev pub rows_in : Option (Bor (List GraphRow)) → List GraphRow
rows_in None = []
rows_in (Some graph) = graph.now

-- the place names the row of this parent, or is corrupt; either way the parent has a row, of a lesser generation
abbrev pub PlaceAgrees : List GraphRow → ℕ → ObjectId → ParentPlace → Type 0
PlaceAgrees rows generation i (At n) =
    (row : GraphRow) × (slice_get rows n ≡ Some row) × (row.id ≡ i) × (row_of rows i ≡ Some row) × (row.generation < generation)
PlaceAgrees rows generation i Fault = (row : GraphRow) × (row_of rows i ≡ Some row) × (row.generation < generation)

pub record RowAgrees (objects : Objects) (rows : List GraphRow) (row : GraphRow) : Type 0 where
  pub whole : ReadsWhole objects row.id
  pub tree : whole.commit.tree ≡ row.tree
  pub time : whole.commit.time ≡ row.time
  pub places : length row.parents ≡ length whole.commit.parents
  pub parents : (k : ℕ) (i : ObjectId) (place : ParentPlace) → slice_get whole.commit.parents k ≡ Some i → slice_get row.parents k ≡ Some place
      → PlaceAgrees rows row.generation i place
  pub finite : row.generation < 2 ^ 32 - 1

abbrev pub IsAgreeing : Objects → List GraphRow → Type 0
IsAgreeing objects rows = (row : GraphRow) → Contains rows row → RowAgrees objects rows row

-- a row with a corrupt place
abbrev pub IsCorrupt : GraphRow → Type 0
IsCorrupt row = Contains row.parents Fault
