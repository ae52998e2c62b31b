-- The number that is read of a printed number is this number.
use Rattle.std.proofs.Common.{◌≡◌, ◌≤◌, ◌<◌, ◌+◌, ◌-◌, ◌*◌, ◌^◌, nat_lt, nat_le, ◌&&◌, ℕ, List, [], ◌∷◌, length, Some, refl, ap, ◌∙◌, arith, le-leb}
use Rattle.std.proofs.lemmas.Bool.{cond-true, and_from, lt-ltb}
use Rattle.std.proofs.lemmas.Fmt.{decimal_is_IsNumeral, length-decimal-le}
use Rattle.std.proofs.lemmas.Str.{digit_value_digit}
use Rattle.std.proofs.lemmas.Str.Parse.{digit_from_value}
use Rattle.std.specs.Char.{digit_value, is_ascii_digit}
use Rattle.std.specs.Fmt.{decimal}
use Rattle.std.specs.Str.Parse.{AllDigits, digits_value_after}
use Rattle.gix_records.specs.Decimal.{digits_behind}
use Rattle.gix_words.specs.Words.{number_in}

digits_again : (n : ℕ) (text : List ℕ) → AllDigits 10 text → digits_behind n text ≡ Some (digits_value_after 10 n text)
digits_again n [] all = refl
digits_again n (c ∷ text) all =
    let range = digit_from_value c all.0 in
    let value : digit_value c + 48 ≡ c = digit_value_digit c range in
    let low : 48 ≤ c = range.0 in
    let high : c ≤ 57 = range.1 in
    let same : 10 * n + (c - 48) ≡ n * 10 + digit_value c = omega (arith, value) in
    cond-true (is_ascii_digit c) _ _ (and_from (nat_le 48 c) (nat_le c 57) (le-leb 48 c low) (le-leb c 57 high))
    ∙ ap (λ k. digits_behind k text) same ∙ digits_again (n * 10 + digit_value c) text all.1

pub number_again : (most n : ℕ) → 0 < most → n < 10 ^ most → n < 2 ^ 64 → number_in most (decimal n) ≡ Some n
number_again most n some few small =
    let numeral = decimal_is_IsNumeral n small in
    let long = length-decimal-le most n some few small in
    cond-true (nat_lt 0 (length (decimal n)) && nat_le (length (decimal n)) most) _ _
    (and_from _ _ (lt-ltb 0 (length (decimal n)) numeral.0.0) (le-leb (length (decimal n)) most long))
    ∙ digits_again 0 (decimal n) numeral.0.1 ∙ ap Some numeral.1
