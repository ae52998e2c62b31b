-- The seconds that are written are those that are read.
use Rattle.std.proofs.Common.{◌≡◌, ◌≢◌, ℕ, suc, ◌+◌, ◌-◌, ◌*◌, ◌^◌, List, [], ◌∷◌, ◌++◌, codes, Option, Some, true, ℤ, pos, negsuc, neg_ℤ, FitsSigned, w64, refl, ap, ◌∙◌, arith, ◌==◌, nat_lt, nat_le, decimal, ne_eqb, lt-ltb, le-leb}
use Rattle.std.specs.List.{AllByRecursion}
use Rattle.std.specs.Char.{is_ascii_digit, digit_value}
use Rattle.std.specs.Int.{IsInRange}
use Rattle.std.specs.Str.Parse.{AllDigits, IsNumeral, digits_value, digits_value_after}
use Rattle.std.proofs.lemmas.Bool.{cond-true, cond-false}
use Rattle.std.proofs.lemmas.Fmt.{decimal_is_IsNumeral}
use Rattle.std.proofs.lemmas.Str.{digit_value_digit}
use Rattle.std.proofs.lemmas.Str.Parse.{digit_from_value}
use Rattle.gix_object.specs.CommitText.{behind_last, without_spaces, digits_from, positive_seconds, negative_seconds, signed_seconds, seconds_behind, seconds_of}
use Rattle.gix_graph_store.specs.RowText.{signature_of}

-- digits end no line
no_line : (digits rest : List ℕ) → AllDigits 10 digits → AllByRecursion (λ b. b ≢ 10) rest → AllByRecursion (λ b. b ≢ 10) (digits ++ rest)
no_line [] rest d h = h
no_line (c ∷ digits) rest d h = (λ e. omega (arith, digit_from_value c d.0), no_line digits rest d.1 h)

-- no digit is a `>`
behind_digits : (found : Option (List ℕ)) (digits rest : List ℕ) → AllDigits 10 digits → behind_last found (digits ++ rest) ≡ behind_last found rest
behind_digits found [] rest d = refl
behind_digits found (c ∷ digits) rest d =
    ap (λ o. behind_last o (digits ++ rest)) (cond-false (c == 62) (Some (digits ++ rest)) found (ne_eqb c 62 (λ e. omega (arith, digit_from_value c d.0)))) ∙ behind_digits found digits rest d.1

is_digit : (c : ℕ) → IsInRange 48 57 c → is_ascii_digit c ≡ true
is_digit c h = grind (arith)

digits_read : (n : ℕ) (digits rest : List ℕ) → AllDigits 10 digits → digits_from n (digits ++ 32 ∷ rest) ≡ digits_value_after 10 n digits
digits_read n [] rest d = refl
digits_read n (c ∷ digits) rest d =
    let more : 10 * n + (c - 48) ≡ n * 10 + digit_value c = omega (arith, digit_value_digit c (digit_from_value c d.0)) in
    cond-true (is_ascii_digit c) _ _ (is_digit c (digit_from_value c d.0)) ∙ ap (λ m. digits_from m (digits ++ 32 ∷ rest)) more ∙ digits_read (n * 10 + digit_value c) digits rest d.1

-- a number without a sign, behind a space and before another
number_read : (digits rest : List ℕ) → IsNumeral 10 digits → signed_seconds (without_spaces (32 ∷ (digits ++ 32 ∷ rest))) ≡ positive_seconds (digits_value 10 digits)
number_read [] rest h = absurd (omega (arith, h.0))
number_read (c ∷ digits) rest h =
    ap signed_seconds (cond-false (c == 32) _ _ (ne_eqb c 32 (λ e. omega (arith, digit_from_value c h.1.0))))
    ∙ cond-false (c == 45) _ _ (ne_eqb c 45 (λ e. omega (arith, digit_from_value c h.1.0)))
    ∙ ap positive_seconds (digits_read 0 (c ∷ digits) rest h.1)

pub seconds-read : (z : ℤ) → FitsSigned w64 z → seconds_of (signature_of z) ≡ z
seconds-read (pos n) fits =
    let k : IsNumeral 10 (decimal n) × (digits_value 10 (decimal n) ≡ n) = decimal_is_IsNumeral n (omega (arith, fits.sfits)) in
    ap seconds_behind (behind_digits (Some (32 ∷ (decimal n ++ codes " +0000"))) (decimal n) (codes " +0000") k.0.1)
    ∙ number_read (decimal n) (codes "+0000") k.0 ∙ ap positive_seconds k.1
    ∙ cond-true (nat_lt n (2 ^ 63)) (pos n) (pos 0) (lt-ltb n (2 ^ 63) (omega (arith, fits.sfits)))
seconds-read (negsuc n) fits =
    let k : IsNumeral 10 (decimal (suc n)) × (digits_value 10 (decimal (suc n)) ≡ suc n) = decimal_is_IsNumeral (suc n) (omega (arith, fits.sfits)) in
    ap seconds_behind (behind_digits (Some (32 ∷ 45 ∷ (decimal (suc n) ++ codes " +0000"))) (decimal (suc n)) (codes " +0000") k.0.1)
    ∙ ap negative_seconds (digits_read 0 (decimal (suc n)) (codes "+0000") k.0.1 ∙ k.1)
    ∙ cond-true (nat_le (suc n) (2 ^ 63)) (neg_ℤ (pos (suc n))) (pos 0) (le-leb (suc n) (2 ^ 63) (omega (arith, fits.sfits)))

pub one_line-zone : AllByRecursion (λ b. b ≢ 10) (codes " +0000")
one_line-zone = (λ e. omega arith, (λ e. omega arith, (λ e. omega arith, (λ e. omega arith, (λ e. omega arith, (λ e. omega arith, tt))))))

pub one_line-signature : (z : ℤ) → FitsSigned w64 z → AllByRecursion (λ b. b ≢ 10) (signature_of z)
one_line-signature (pos n) fits =
    (λ e. omega arith, (λ e. omega arith, (λ e. omega arith, no_line (decimal n) (codes " +0000") (decimal_is_IsNumeral n (omega (arith, fits.sfits))).0.1 one_line-zone)))
one_line-signature (negsuc n) fits =
    (λ e. omega arith, (λ e. omega arith, (λ e. omega arith, (λ e. omega arith, no_line (decimal (suc n)) (codes " +0000") (decimal_is_IsNumeral (suc n) (omega (arith, fits.sfits))).0.1 one_line-zone))))
