use Rattle.std.proofs.Common.{◌<◌, length, sym, ap, ◌∙◌, sum, arith}
use Rattle.gix_format.specs.Pieces.{months_text}
use Rattle.gix_format.proofs.Months.{at_first, here, next, sum_next, sum_of_all}
use Rattle.gix_format.proofs.date.month_and_day.Goals as goal

pub loop-days-init : goal.loop-days-init
loop-days-init c = (
  omega arith,
  c.months-months.ensures,
  omega (arith, ap sum c.months-months.ensures, sum_of_all c.args.year),
  ap (λ lengths. months_text 1 lengths c.args.day) c.months-months.ensures ∙ at_first c.args.year c.args.day,
)

pub returns-then-left-days-clause-text : goal.returns-then-left-days-clause-text
returns-then-left-days-clause-text c =
    let at : c.loop-days.days-index < length c.months-months.result = omega (arith, ap length c.months-months.ensures) in
    let is = here c.loop-days.month c.loop-days.days-index c.months-months.result c.loop-days.left at c.if-left-days.true in
    sym c.loop-days.invariant.3 ∙ is

pub loop-days-preserved : goal.loop-days-preserved
loop-days-preserved c =
    let at : c.loop-days.days-index < length c.months-months.result = omega (arith, ap length c.months-months.ensures) in
    let rest = sum_next c.loop-days.days-index c.months-months.result at in (
      omega arith,
      c.months-months.ensures,
      omega arith,
      next c.loop-days.month c.loop-days.days-index c.months-months.result c.loop-days.left at c.if-left-days.false ∙ c.loop-days.invariant.3,
    )
