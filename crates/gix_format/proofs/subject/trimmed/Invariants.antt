use Rattle.std.proofs.Common.{◌≡◌, length}
use Rattle.gix_statement.specs.Formats.{trimmed}
use Rattle.gix_format.proofs.subject.trimmed.Given as goal

abbrev pub invariant-loop-left : goal.invariant-loop-left
invariant-loop-left l = trimmed l.left ≡ trimmed l.fn.line

abbrev pub decreases-loop-left : goal.decreases-loop-left
decreases-loop-left l = length l.left
