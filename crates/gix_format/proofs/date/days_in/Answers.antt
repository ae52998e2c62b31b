use Rattle.std.proofs.Common.{sym}
use Rattle.gix_format.proofs.Years.{year_days-leap, year_days-other}
use Rattle.gix_format.proofs.date.days_in.Goals as goal

pub returns-then-is_leap : goal.returns-then-is_leap
returns-then-is_leap c = sym (year_days-leap c.args.year (sym c.if-is_leap.ensures))

pub returns-else-is_leap : goal.returns-else-is_leap
returns-else-is_leap c = sym (year_days-other c.args.year (sym c.if-is_leap.ensures))
