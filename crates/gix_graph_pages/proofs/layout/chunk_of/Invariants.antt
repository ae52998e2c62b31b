use Rattle.std.proofs.Common.{◌≢◌, ◌*◌, ◌+◌, ◌<◌, ℕ, List}
use Rattle.gix_statement.specs.CommitGraph.{bytes_at}
use Rattle.gix_graph_pages.specs.GraphPages.{IsFileOf}
use Rattle.gix_graph_pages.proofs.layout.chunk_of.Given as goal

-- in no such file do the letters stand before
abbrev pub invariant-loop-number : goal.invariant-loop-number
invariant-loop-number g l = (file : List ℕ) → IsFileOf l.pages l.layer file → (j : ℕ) → j < l.number → bytes_at (8 + 12 * j) 4 file ≢ l.letters
