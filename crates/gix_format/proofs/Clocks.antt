-- Clocks that are off UTC.
use Rattle.std.proofs.Common.{ℕ, zero, suc, ◌≡◌, ◌+◌, ◌*◌, ◌<◌, ◌==◌, ◌&&◌, ◌||◌, ℤ, pos, negsuc, ◌+ℤ◌, ◌-ℤ◌, List, [], ◌∷◌, Bool, true, false, cond, length, get_or, refl, ap, sym, ◌∙◌, arith}
use Rattle.std.specs.Prelude.{◌≤ℤ◌, ◌<ℤ◌, nat_le}
use Rattle.std.specs.List.{list_all}
use Rattle.std.specs.Char.{digit_value}
use Rattle.std.proofs.lemmas.Bool.{cond-false, cond-true}
use Rattle.std.proofs.lemmas.Bool.Decides.{nat_tests}
use Rattle.std.proofs.lemmas.Str.{digit_value_digit}
use Rattle.std.proofs.lemmas.Int.{ints}
use Rattle.gix_statement.specs.Formats.{clock, from_1970, is_offset}
use Rattle.gix_format.specs.Pieces.{offset_seconds}

clock_is : (time : ℤ) (offset : List ℕ) → is_offset offset ≡ true
    → clock time offset ≡ from_1970 (cond (get_or offset 0 0 == 45) (time -ℤ pos (offset_seconds offset)) (time +ℤ pos (offset_seconds offset)))
unfolding offset_seconds
clock_is time [] is = cc
clock_is time (sign ∷ rest) is = refl

from_1970-is : (z : ℤ) (n : ℕ) → (pos 0 ≤ℤ z → z ≡ pos n) → (z <ℤ pos 0 → n ≡ 0) → n ≡ from_1970 z
from_1970-is (pos m) n behind before = omega (arith, ints, behind (omega (arith, ints)))
from_1970-is (negsuc m) n behind before = before (omega (arith, ints))

pub clock_behind : (time : ℤ) (offset : List ℕ) (n seconds : ℕ) → is_offset offset ≡ true → get_or offset 0 0 ≡ 45 → seconds ≡ offset_seconds offset
    → (pos 0 ≤ℤ (time -ℤ pos seconds) → (time -ℤ pos seconds) ≡ pos n) → ((time -ℤ pos seconds) <ℤ pos 0 → n ≡ 0) → n ≡ clock time offset
clock_behind time offset n seconds is sign same later before =
    from_1970-is (time -ℤ pos seconds) n later before
    ∙ ap (λ s. from_1970 (time -ℤ pos s)) same
    ∙ sym (clock_is time offset is ∙ ap from_1970 (cond-true (get_or offset 0 0 == 45) _ _ (ap (λ b. b == 45) sign)))

pub clock_ahead : (time : ℤ) (offset : List ℕ) (n seconds : ℕ) → is_offset offset ≡ true → (get_or offset 0 0 ≡ 45 → ⊥) → seconds ≡ offset_seconds offset
    → (pos 0 ≤ℤ (time +ℤ pos seconds) → (time +ℤ pos seconds) ≡ pos n) → ((time +ℤ pos seconds) <ℤ pos 0 → n ≡ 0) → n ≡ clock time offset
clock_ahead time offset n seconds is sign same later before =
    from_1970-is (time +ℤ pos seconds) n later before
    ∙ ap (λ s. from_1970 (time +ℤ pos s)) same
    ∙ sym (clock_is time offset is ∙ ap from_1970 (cond-false (get_or offset 0 0 == 45) _ _ (differs (get_or offset 0 0) sign)))
  where
    differs : (b : ℕ) → (b ≡ 45 → ⊥) → (b == 45) ≡ false
    differs b other = grind (arith, nat_tests)

offset_len : (offset : List ℕ) → is_offset offset ≡ true → length offset ≡ 5
offset_len [] is = cc
offset_len (sign ∷ rest) is = go (sign == 43 || sign == 45) (list_all (λ b. nat_le 48 b && nat_le b 57) rest) is
  where
    go : (s t : Bool) → (s && length rest == 4 && t) ≡ true → suc (length rest) ≡ 5
    go s t is = grind (arith, nat_tests)

digits_small : (rest : List ℕ) → list_all (λ b. nat_le 48 b && nat_le b 57) rest ≡ true → (i : ℕ) → i < length rest → get_or rest i 0 < 58
digits_small [] all i l = absurd (omega arith)
digits_small (b ∷ rest) all zero l = go (list_all (λ b. nat_le 48 b && nat_le b 57) rest) all
  where
    go : (t : Bool) → (nat_le 48 b && nat_le b 57 && t) ≡ true → b < 58
    go t all = grind (arith, nat_tests)
digits_small (b ∷ rest) all (suc i) l = digits_small rest (go (nat_le 48 b && nat_le b 57) (list_all (λ b. nat_le 48 b && nat_le b 57) rest) all) i (omega arith)
  where
    go : (s t : Bool) → (s && t) ≡ true → t ≡ true
    go true t all = all
    go false t all = cc

offset_digits : (offset : List ℕ) → is_offset offset ≡ true → (i : ℕ) → 0 < i → i < 5 → get_or offset i 0 < 58
offset_digits [] is i low high = omega arith
offset_digits (sign ∷ rest) is zero low high = absurd (omega arith)
offset_digits (sign ∷ rest) is (suc i) low high =
    let len = offset_len (sign ∷ rest) is in
    digits_small rest (go (sign == 43 || sign == 45) (length rest == 4) (list_all (λ b. nat_le 48 b && nat_le b 57) rest) is) i (omega arith)
  where
    go : (s u t : Bool) → (s && u && t) ≡ true → t ≡ true
    go true true t all = all
    go true false t all = cc
    go false u t all = cc

pub offset_seconds-is : (offset : List ℕ) (a b d e : ℕ) → is_offset offset ≡ true → get_or offset 1 0 ≡ 48 + a → get_or offset 2 0 ≡ 48 + b
    → get_or offset 3 0 ≡ 48 + d → get_or offset 4 0 ≡ 48 + e → 3600 * (10 * a + b) + 60 * (10 * d + e) ≡ offset_seconds offset
unfolding offset_seconds
offset_seconds-is offset a b d e is is_a is_b is_d is_e = go offset (offset_len offset is) (offset_digits offset is) is_a is_b is_d is_e
  where
    value : (c n : ℕ) → c ≡ 48 + n → c < 58 → n ≡ digit_value c
    value c n is l = omega (arith, digit_value_digit c (omega arith, omega arith))

    in_tens : (v w x y : ℕ) → 3600 * (10 * v + w) + 60 * (10 * x + y) ≡ 3600 * ((0 * 10 + v) * 10 + w) + 60 * ((0 * 10 + x) * 10 + y)
    in_tens v w x y = omega arith

    go : (offset : List ℕ) → length offset ≡ 5 → ((i : ℕ) → 0 < i → i < 5 → get_or offset i 0 < 58) → get_or offset 1 0 ≡ 48 + a → get_or offset 2 0 ≡ 48 + b
        → get_or offset 3 0 ≡ 48 + d → get_or offset 4 0 ≡ 48 + e → 3600 * (10 * a + b) + 60 * (10 * d + e) ≡ offset_seconds offset
    go (sign ∷ v ∷ w ∷ x ∷ y ∷ []) len small is_a is_b is_d is_e =
        let is_v = value v a is_a (small 1 (omega arith) (omega arith)) in
        let is_w = value w b is_b (small 2 (omega arith) (omega arith)) in
        let is_x = value x d is_d (small 3 (omega arith) (omega arith)) in
        let is_y = value y e is_e (small 4 (omega arith) (omega arith)) in
        ap (λ n. 3600 * (10 * n + b) + 60 * (10 * d + e)) is_v
        ∙ ap (λ n. 3600 * (10 * digit_value v + n) + 60 * (10 * d + e)) is_w
        ∙ ap (λ n. 3600 * (10 * digit_value v + digit_value w) + 60 * (10 * n + e)) is_x
        ∙ ap (λ n. 3600 * (10 * digit_value v + digit_value w) + 60 * (10 * digit_value x + n)) is_y
        ∙ in_tens (digit_value v) (digit_value w) (digit_value x) (digit_value y)
    go [] len small is_a is_b is_d is_e = absurd (omega arith)
    go (sign ∷ []) len small is_a is_b is_d is_e = absurd (omega arith)
    go (sign ∷ v ∷ []) len small is_a is_b is_d is_e = absurd (omega arith)
    go (sign ∷ v ∷ w ∷ []) len small is_a is_b is_d is_e = absurd (omega arith)
    go (sign ∷ v ∷ w ∷ x ∷ []) len small is_a is_b is_d is_e = absurd (omega arith)
    go (sign ∷ v ∷ w ∷ x ∷ y ∷ z ∷ rest) len small is_a is_b is_d is_e = absurd (omega arith)
