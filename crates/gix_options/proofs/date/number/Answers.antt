use Rattle.std.proofs.Common.{ℕ, ◌<◌, ◌≤◌, ◌^◌, arith}
use Rattle.std.proofs.Math.Nat.{pow-le-pow_right}
use Rattle.gix_options.proofs.date.number.Goals as goal

-- before the last digit the number has at most nine
small : (i : ℕ) → i < 10 → 10 ^ i ≤ 10 ^ 9
small i h = let some : 0 < 10 = omega arith in let at : i ≤ 9 = omega arith in pow-le-pow_right some at

pub overflow_mul-number : goal.overflow_mul-number
overflow_mul-number c = omega (arith, small c.loop-digit.digit-index (omega arith))

pub overflow_add-number : goal.overflow_add-number
overflow_add-number c = omega (arith, small c.loop-digit.digit-index (omega arith))
