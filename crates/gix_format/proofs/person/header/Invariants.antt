use Rattle.std.proofs.Common.{◌≡◌, length}
use Rattle.gix_statement.specs.Formats.{header, lines_in}
use Rattle.gix_format.proofs.person.header.Given as goal

-- what is left says the same
abbrev pub invariant-loop-left : goal.invariant-loop-left
invariant-loop-left l = header l.word (lines_in l.left) ≡ header l.fn.word (lines_in l.fn.text)

abbrev pub decreases-loop-left : goal.decreases-loop-left
decreases-loop-left l = length l.left
