-- Sound places, as they are read one by one.
use Rattle.std.specs.Prelude.{ℕ, ◌<◌, List, Ok, Err}
use Rattle.gix_commitgraph.specs.Rows.{GraphRow, row_at}
use Rattle.gix_commitgraph.specs.Parents.{Answer}

abbrev pub IsSoundAnswer : List GraphRow → ℕ → Answer → Type 0
IsSoundAnswer rows generation (Ok position) = (row_at rows position.0).generation < generation
IsSoundAnswer rows generation (Err fault) = ⊥
