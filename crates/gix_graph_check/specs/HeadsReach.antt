-- What the heads of rows reach.
use Rattle.std.specs.Prelude.{ℕ, ◌<◌, List, [], ◌∷◌, length, Option, Some, None}
use Rattle.gix_hash.specs.declared.ObjectId.{ObjectId}
use Rattle.gix_hash.specs.Reach.{Reaches}
use Rattle.gix_commitgraph.specs.declared.ParentPlace.{ParentPlace}
use Rattle.gix_commitgraph.specs.declared.ParentPlace.TheVariants.{At, Fault}
use Rattle.gix_commitgraph.specs.Packed.{AreGraphRows}
use Rattle.gix_commitgraph.specs.Rows.{GraphRow, row_at, row_of}
use Rattle.gix_graph_check.specs.Heads.{heads_of}
use Rattle.gix_graph_check.specs.Sound.{AreSound}

-- the ids at places; at a corrupt one there is none
abbrev pub ids_of_places : List GraphRow → List ParentPlace → List ObjectId
ids_of_places rows [] = []
ids_of_places rows (At n ∷ places) = (row_at rows n).id ∷ ids_of_places rows places
ids_of_places rows (Fault ∷ places) = ids_of_places rows places

abbrev pub parents_in : List GraphRow → Option GraphRow → List ObjectId
parents_in rows None = []
parents_in rows (Some row) = ids_of_places rows row.parents

-- the parents that the row of an id names
abbrev pub parents_by_rows : List GraphRow → ObjectId → List ObjectId
parents_by_rows rows i = parents_in rows (row_of rows i)

-- the heads of a graph's rows, which are sound, reach each row by the parents that rows name
abbrev pub HeadsReach : Type 0
HeadsReach = (rows : List GraphRow) → AreGraphRows rows → AreSound rows → (n : ℕ) → n < length rows → Reaches (parents_by_rows rows) (heads_of rows) (row_at rows n).id
