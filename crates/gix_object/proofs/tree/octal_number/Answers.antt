use Rattle.std.proofs.Common.{ℕ, ◌<◌, ◌≤◌, ◌^◌, arith}
use Rattle.std.proofs.Math.Nat.{pow-le-pow_right}
use Rattle.gix_object.proofs.tree.octal_number.Goals as goal

-- before the last digit the number has at most five
small : (i : ℕ) → i < 6 → 8 ^ i ≤ 8 ^ 5
small i h = let some : 0 < 8 = omega arith in let most : i ≤ 5 = omega arith in pow-le-pow_right some most

pub overflow_mul-number : goal.overflow_mul-number
overflow_mul-number c = omega (arith, small c.loop-digit.digit-index (omega arith))

pub overflow_add-number : goal.overflow_add-number
overflow_add-number c = omega (arith, small c.loop-digit.digit-index (omega arith))
