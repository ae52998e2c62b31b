use Rattle.std.proofs.Common.{◌≡◌, ◌<◌, ◌+◌, drop, sum}
use Rattle.gix_statement.specs.Formats.{months}
use Rattle.gix_format.specs.Pieces.{month_text, months_text}
use Rattle.gix_format.proofs.date.month_and_day.Given as goal

-- the day is in the months from this one on
abbrev pub invariant-loop-days : goal.invariant-loop-days
invariant-loop-days l =
    (l.month ≡ l.days-index + 1) × (l.days-items ≡ months l.fn.year) × (l.left < sum (drop l.days-index l.days-items))
    × (months_text l.month (drop l.days-index l.days-items) l.left ≡ month_text l.fn.year l.fn.day)
