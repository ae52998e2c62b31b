use Rattle.gix_format.proofs.Years.{IsAhead}
use Rattle.gix_format.proofs.date.year_and_day.Given as goal

-- the day is in the years from this one on
abbrev pub invariant-loop-left : goal.invariant-loop-left
invariant-loop-left l = IsAhead l.fn.day l.year l.left

abbrev pub decreases-loop-left : goal.decreases-loop-left
decreases-loop-left l = l.left
