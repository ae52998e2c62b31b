use Rattle.std.proofs.Common.{◌+◌, ◌-◌, subst, sym, arith}
use Rattle.gix_format.proofs.Years.{IsAhead, at_first, here, next, year_days-some}
use Rattle.gix_format.proofs.date.year_and_day.Goals as goal

pub loop-left-init : goal.loop-left-init
loop-left-init c = at_first c.args.day

pub returns-then-left-days-clause-text : goal.returns-then-left-days-clause-text
returns-then-left-days-clause-text c = here c.args.day c.loop-left.year c.loop-left.left c.loop-left.invariant (omega arith) (omega arith)

pub loop-left-smaller : goal.loop-left-smaller
loop-left-smaller c = let some = year_days-some c.loop-left.year in omega arith

pub loop-left-preserved : goal.loop-left-preserved
loop-left-preserved c =
    let rest = next c.args.day c.loop-left.year c.loop-left.left c.loop-left.invariant (omega arith) in
    subst (λ days. IsAhead c.args.day (c.loop-left.year + 1) (c.loop-left.left - days)) (sym c.days_in-days.ensures) rest
