-- Rows that can be used without a store: no place is corrupt, and generations fall from each row to its parents.
use Rattle.std.specs.Prelude.{◌≡◌, ℕ, ◌-◌, ◌^◌, ◌<◌, List, length, All}
use Rattle.std.specs.List.{AllByRecursion}
use Rattle.gix_hash.specs.declared.ObjectId.{ObjectId}
use Rattle.gix_commitgraph.specs.declared.ParentPlace.{ParentPlace}
use Rattle.gix_commitgraph.specs.declared.ParentPlace.TheVariants.{At, Fault}
use Rattle.gix_commitgraph.specs.Rows.{GraphRow, row_at}

-- the place names a row whose generation is below this one
abbrev pub IsSoundPlace : List GraphRow → ℕ → ParentPlace → Type 0
IsSoundPlace rows generation (At n) = (row_at rows n).generation < generation
IsSoundPlace rows generation Fault = ⊥

pub record IsSound (rows : List GraphRow) (row : GraphRow) : Type 0 where
  pub finite : row.generation < 2 ^ 32 - 1
  pub parents : AllByRecursion (IsSoundPlace rows row.generation) row.parents

abbrev pub AreSound : List GraphRow → Type 0
AreSound rows = All (IsSound rows) rows

-- the id is that of the first row that isn't sound
pub record IsFirstUnsound (rows : List GraphRow) (i : ObjectId) : Type 0 where
  pub number : ℕ
  pub within : number < length rows
  pub id : (row_at rows number).id ≡ i
  pub unsound : ¬ IsSound rows (row_at rows number)
  pub before : (n : ℕ) → n < number → IsSound rows (row_at rows n)
