-- Marks for rows, set one by one.
use Rattle.std.specs.Prelude.{◌≡◌, ℕ, ◌<◌, ◌==◌, ◌||◌, Bool, false, List, length, slice_index_or, Ok, Err}
use Rattle.gix_commitgraph.specs.Rows.{GraphRow}
use Rattle.gix_commitgraph.specs.Parents.{Answer}
use Rattle.gix_graph_check.specs.Heads.{is_named}

abbrev pub names_answer : ℕ → Answer → Bool
names_answer n (Ok position) = position.0 == n
names_answer n (Err fault) = false

-- the marks of these numbers are set, and no mark is taken away
pub record Marks (test : ℕ → Bool) (old new : List Bool) : Type 0 where
  pub len : length new ≡ length old
  pub each : (n : ℕ) → n < length old → slice_index_or new n false ≡ (slice_index_or old n false || test n)

-- a mark for each row that a row names
pub record IsMarked (rows : List GraphRow) (named : List Bool) : Type 0 where
  pub len : length named ≡ length rows
  pub each : (n : ℕ) → n < length rows → slice_index_or named n false ≡ is_named rows n
