-- The rows that no row names as a parent.
use Rattle.std.specs.Prelude.{ℕ, ◌+◌, ◌==◌, Bool, false, List, [], ◌∷◌, if◌then◌else◌}
use Rattle.std.specs.List.{list_any}
use Rattle.gix_hash.specs.declared.ObjectId.{ObjectId}
use Rattle.gix_commitgraph.specs.declared.ParentPlace.{ParentPlace}
use Rattle.gix_commitgraph.specs.declared.ParentPlace.TheVariants.{At, Fault}
use Rattle.gix_commitgraph.specs.Rows.{GraphRow}

abbrev pub is_place_of : ℕ → ParentPlace → Bool
is_place_of n (At k) = k == n
is_place_of n Fault = false

-- whether a row names the row of this number as a parent
abbrev pub names : ℕ → GraphRow → Bool
names n row = list_any (is_place_of n) row.parents

abbrev pub is_named : List GraphRow → ℕ → Bool
is_named rows n = list_any (names n) rows

-- the heads among the rows that are left, whose numbers begin with n
abbrev pub heads_from : List GraphRow → ℕ → List GraphRow → List ObjectId
heads_from rows n [] = []
heads_from rows n (row ∷ left) = if is_named rows n then heads_from rows (n + 1) left else row.id ∷ heads_from rows (n + 1) left

unfoldable pub heads_of : List GraphRow → List ObjectId
heads_of rows = heads_from rows 0 rows
