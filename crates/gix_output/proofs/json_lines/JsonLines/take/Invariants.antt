use Rattle.std.proofs.Common.{◌≡◌, ◌++◌, List, ℕ, length}
use Rattle.std.specs.Io.KnownBytes.{Appends}
use Rattle.gix_output.specs.Lines.{WritesMore}
use Rattle.gix_output.proofs.json_lines.JsonLines.take.Given as goal

-- what ended in the bytes before those that are left was written
abbrev pub invariant-loop-len : goal.invariant-loop-len
invariant-loop-len g l = (front more : List ℕ)
    × (front ++ l.left ≡ l.fn.bytes)
    × Appends (g.W.Write.contents l.fn.self.writer) (g.W.Write.contents l.self.writer) more
    × WritesMore l.fn.self l.self front more

abbrev pub decreases-loop-len : goal.decreases-loop-len
decreases-loop-len g l = length l.left
