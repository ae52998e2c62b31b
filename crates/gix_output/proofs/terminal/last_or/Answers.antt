use Rattle.std.proofs.Common.{ℕ, zero, suc, ◌≡◌, List, [], ◌∷◌, length, get_or, refl, arith}
use Rattle.gix_output.specs.Terminal.{last_or}
use Rattle.gix_output.proofs.terminal.last_or.Goals as goal

at_the_end : (before : ℕ) (text : List ℕ) (n : ℕ) → suc n ≡ length text → get_or text n 0 ≡ last_or before text
at_the_end before [] n is = absurd (omega (arith, is))
at_the_end before (b ∷ []) zero is = refl
at_the_end before (b ∷ []) (suc n) is = absurd (omega (arith, is))
at_the_end before (b ∷ next ∷ text) zero is = absurd (omega (arith, is))
at_the_end before (b ∷ next ∷ text) (suc n) is = at_the_end b (next ∷ text) n (omega (arith, is))

pub returns-in-len1-up : goal.returns-in-len1-up
returns-in-len1-up c = at_the_end c.args.before c.args.bytes.now _ (omega arith)
