-- Numbers in decimal digits.
use Rattle.std.proofs.Common.{ℕ, ◌≡◌, ◌≢◌, ◌+◌, ◌-◌, ◌*◌, Bool, true, false, List, [], ◌∷◌, length, Some, None, nat_lt, nat_le, ◌&&◌, cond, refl, subst}
use Rattle.std.specs.List.{AllByRecursion}
use Rattle.std.specs.Char.{is_ascii_digit}
use Rattle.gix_records.specs.Decimal.{digits_behind, decimal}

-- no digit is a newline
digits_lineless : (n : ℕ) (digits : List ℕ) (m : ℕ) → digits_behind n digits ≡ Some m → AllByRecursion (λ b. b ≢ 10) digits
digits_lineless n [] m e = tt
digits_lineless n (d ∷ digits) m e = go (is_ascii_digit d) refl (digits_lineless (10 * n + (d - 48)) digits m) e
  where
    go : (t : Bool) → is_ascii_digit d ≡ t → (digits_behind (10 * n + (d - 48)) digits ≡ Some m → AllByRecursion (λ b. b ≢ 10) digits) → cond t (digits_behind (10 * n + (d - 48)) digits) None ≡ Some m → AllByRecursion (λ b. b ≢ 10) (d ∷ digits)
    go true h tail e = ((λ at. let no : is_ascii_digit 10 ≡ true = subst (λ b. is_ascii_digit b ≡ true) at h in cc), tail e)
    go false h tail e = cc

pub decimal_lineless : (digits : List ℕ) (m : ℕ) → decimal digits ≡ Some m → AllByRecursion (λ b. b ≢ 10) digits
decimal_lineless digits m e = go (nat_lt 0 (length digits) && nat_le (length digits) 10) e
  where
    go : (t : Bool) → cond t (digits_behind 0 digits) None ≡ Some m → AllByRecursion (λ b. b ≢ 10) digits
    go true e = digits_lineless 0 digits m e
    go false e = cc
