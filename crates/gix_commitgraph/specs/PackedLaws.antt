-- What follows from the definitions of packed rows.
use Rattle.std.specs.Prelude.{◌≡◌, List, Ok}
use Rattle.gix_commitgraph.specs.Rows.{GraphRow}
use Rattle.gix_commitgraph.specs.Packed.{AreGraphRows, spelling}
use Rattle.gix_commitgraph.specs.PackedReading.{read_packed}

-- no two lists of rows have one spelling
abbrev pub SpellingsDiffer : Type 0
SpellingsDiffer = (rows others : List GraphRow) → AreGraphRows rows → AreGraphRows others → spelling rows ≡ spelling others → rows ≡ others

-- the spelling of rows is read as these rows, so what a graph is packed as is taken again
abbrev pub SpellingsAreRead : Type 0
SpellingsAreRead = (rows : List GraphRow) → AreGraphRows rows → read_packed (spelling rows) ≡ Ok rows
