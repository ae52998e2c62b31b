use Rattle.std.proofs.Common.{arith}
use Rattle.std.proofs.lemmas.Int.{ints}
use Rattle.gix_format.proofs.Clocks.{clock_ahead, clock_behind}
use Rattle.gix_format.proofs.date.clock.Goals as goal

pub returns-in-true-false : goal.returns-in-true-false
returns-in-true-false c =
    clock_behind c.args.time c.args.offset.now _ _ c.requires c.in-true-false.is-0 c.seconds_off-off.ensures.value
    (λ h. grind (arith, ints)) (λ h. grind (arith, ints))

pub returns-in-false-true : goal.returns-in-false-true
returns-in-false-true c =
    clock_ahead c.args.time c.args.offset.now _ _ c.requires c.in-false-true.is-0 c.seconds_off-off.ensures.value
    (λ h. grind (arith, ints)) (λ h. grind (arith, ints))

pub returns-in-false-false : goal.returns-in-false-false
returns-in-false-false c =
    clock_ahead c.args.time c.args.offset.now _ _ c.requires c.in-false-false.is-0 c.seconds_off-off.ensures.value
    (λ h. grind (arith, ints)) (λ h. grind (arith, ints))
