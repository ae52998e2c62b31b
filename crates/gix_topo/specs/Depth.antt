-- How far a topological walk counts, where rows have generations.
use Rattle.std.specs.Prelude.{◌-◌, ◌^◌, ℕ, min, List, [], ◌∷◌}
use Rattle.gix_hash.specs.declared.ObjectId.{ObjectId}
use Rattle.gix_commitgraph.specs.Rows.{GraphRow, row_of}
use Rattle.gix_revwalk.specs.Infos.{generation_in}

-- above every generation: that of a commit without a row
abbrev pub infinity : ℕ
infinity = 2 ^ 32 - 1

-- the generation of an id as far as the rows know it
abbrev pub known_generation : List GraphRow → ObjectId → ℕ
known_generation rows i = generation_in (row_of rows i)

-- the least of a depth and of the generations of these
abbrev pub least : List GraphRow → ℕ → List ObjectId → ℕ
least rows depth [] = depth
least rows depth (i ∷ ids) = min (known_generation rows i) (least rows depth ids)
