use Rattle.std.proofs.Common.{◌≡◌, length, true}
use Rattle.gix_statement.specs.Formats.{message}
use Rattle.gix_format.proofs.subject.message.Given as goal

-- what is left begins a line
abbrev pub invariant-loop-end : goal.invariant-loop-end
invariant-loop-end l = message true l.left ≡ message true l.fn.text

abbrev pub decreases-loop-end : goal.decreases-loop-end
decreases-loop-end l = length l.left
