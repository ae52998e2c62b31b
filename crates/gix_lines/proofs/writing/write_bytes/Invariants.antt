use Rattle.std.proofs.Common.{◌≡◌, ℕ, List, ◌++◌}
use Rattle.std.specs.Io.KnownBytes.{Appends}
use Rattle.gix_lines.proofs.writing.write_bytes.Given as goal

-- a beginning was written, and the rest is left
abbrev pub invariant-loop-turn : goal.invariant-loop-turn
invariant-loop-turn g l = record {
  some : List ℕ;
  whole : l.fn.bytes ≡ some ++ l.rest;
  appends : Appends (g.W.Write.contents l.fn.writer) (g.W.Write.contents l.writer) some;
}
