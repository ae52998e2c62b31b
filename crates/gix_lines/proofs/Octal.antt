-- The octal digits of a number, from the last one on.
use Rattle.std.proofs.Common.{◌≡◌, ◌≢◌, ◌⊎◌, ⊎_elim, inl, inr, ◌<◌, ◌≤◌, ◌+◌, ◌-◌, ◌/◌, ◌%◌, ◌^◌, ◌==◌, nat_lt, ℕ, zero, suc, List, [], ◌∷◌, ◌++◌, Bool, true, false, cond, length, replicate, drop, slice_set, refl, sym, ap, subst, ◌∙◌, arith, append-nil, append_assoc, length-append, eqb-true, ltb-false}
use Rattle.std.proofs.lemmas.List.{drop-set, drop_all, replicate_more}
use Rattle.std.proofs.Math.Nat.{pow-suc, sub-zero}
use Rattle.std.specs.Fmt.{digits, digits_onto, digit_glyph}
use Rattle.gix_lines.specs.Files.{six_octal_digits}

-- the digits of a number but for those of zero, which has none
abbrev pub significant : ℕ → ℕ → List ℕ
significant k n = cond (n == 0) [] (digits_onto k 8 false n [])

-- filled up with zeros to so many
abbrev pub padded : ℕ → List ℕ → List ℕ
padded w xs = replicate (w - length xs) 48 ++ xs

glyph : (d : ℕ) → d < 10 → digit_glyph false d ≡ 48 + d
glyph d h = go (nat_lt d 10) refl
  where
    go : (t : Bool) → nat_lt d 10 ≡ t → cond t (48 + d) (87 + d) ≡ 48 + d
    go true e = refl
    go false e = absurd (omega (arith, ltb-false d 10 e))

digits_before : (k n : ℕ) (more : List ℕ) → digits_onto k 8 false n more ≡ digits_onto k 8 false n [] ++ more
digits_before zero n more = refl
digits_before (suc k) n more = go (digits_before k (n / 8)) (n / 8 == 0)
  where
    go : ((more : List ℕ) → digits_onto k 8 false (n / 8) more ≡ digits_onto k 8 false (n / 8) [] ++ more) → (t : Bool) → cond t (digit_glyph false (n % 8) ∷ more) (digits_onto k 8 false (n / 8) (digit_glyph false (n % 8) ∷ more)) ≡ cond t (digit_glyph false (n % 8) ∷ []) (digits_onto k 8 false (n / 8) (digit_glyph false (n % 8) ∷ [])) ++ more
    go before true = refl
    go before false =
        before (digit_glyph false (n % 8) ∷ more) ∙ sym (append_assoc (digits_onto k 8 false (n / 8) []) (digit_glyph false (n % 8) ∷ []) more)
        ∙ ap (λ xs. xs ++ more) (sym (before (digit_glyph false (n % 8) ∷ [])))

-- of a number that isn't zero
all_digits : (k n : ℕ) → n ≢ 0 → significant k n ≡ digits_onto k 8 false n []
all_digits k n some = go (n == 0) refl
  where
    go : (t : Bool) → (n == 0) ≡ t → cond t [] (digits_onto k 8 false n []) ≡ digits_onto k 8 false n []
    go true e = absurd (some (eqb-true n 0 e))
    go false e = refl

significant_step : (k n : ℕ) → n ≢ 0 → significant (suc k) n ≡ significant k (n / 8) ++ (48 + n % 8) ∷ []
significant_step k n some = all_digits (suc k) n some ∙ ends (n / 8 == 0) ∙ ap (λ d. significant k (n / 8) ++ d ∷ []) (glyph (n % 8) (omega arith))
  where
    ends : (t : Bool) → cond t (digit_glyph false (n % 8) ∷ []) (digits_onto k 8 false (n / 8) (digit_glyph false (n % 8) ∷ [])) ≡ cond t [] (digits_onto k 8 false (n / 8) []) ++ digit_glyph false (n % 8) ∷ []
    ends true = refl
    ends false = digits_before k (n / 8) (digit_glyph false (n % 8) ∷ [])

padded_step : (w : ℕ) (xs : List ℕ) (d : ℕ) → padded w (xs ++ d ∷ []) ≡ padded (w - 1) xs ++ d ∷ []
padded_step w xs d =
    let fewer : w - length (xs ++ d ∷ []) ≡ w - 1 - length xs = omega (arith, length-append xs (d ∷ [])) in
    ap (λ k. replicate k 48 ++ (xs ++ d ∷ [])) fewer ∙ sym (append_assoc (replicate (w - 1 - length xs) 48) xs (d ∷ []))

zeros : (w : ℕ) → padded w [] ≡ replicate w 48
zeros w = append-nil (replicate (w - length {A = ℕ} []) 48) ∙ ap (λ j. replicate j 48) (sub-zero w)

zeros_step : (w before : ℕ) → before + 1 ≡ w → padded w [] ≡ padded before [] ++ 48 ∷ []
zeros_step w before is = zeros w ∙ ap (λ j. replicate j 48) (sym is) ∙ sym (replicate_more before 48) ∙ ap (λ xs. xs ++ 48 ∷ []) (sym (zeros before))

-- one digit more, of a number that has one or where zeros are still to come
octal_one : (k w n : ℕ) → (0 < w) ⊎ (n ≢ 0) → padded w (significant (suc k) n) ≡ padded (w - 1) (significant k (n / 8)) ++ (48 + n % 8) ∷ []
octal_one k w zero (inl more) = zeros_step w (w - 1) (omega (arith, more))
octal_one k w zero (inr some) = absurd (some refl)
octal_one k w (suc n) more = ap (padded w) (significant_step k (suc n) (λ e. absurd (omega (arith, e)))) ∙ padded_step w (significant k (suc n / 8)) (48 + suc n % 8)

octal_is : (n : ℕ) → padded 6 (digits_onto 64 8 false n []) ≡ six_octal_digits n
unfolding digits
octal_is n = refl

no_digits : (n : ℕ) → n ≡ 0 → (k w : ℕ) → padded w (significant k n) ≡ padded w []
no_digits n none k w = ap (λ j. padded w (significant k j)) none

octal_zero : padded 6 [] ≡ six_octal_digits 0
unfolding digits
octal_zero = refl

octal_all : (n : ℕ) → padded 6 (significant 64 n) ≡ six_octal_digits n
octal_all zero = octal_zero
octal_all (suc n) = ap (padded 6) (all_digits 64 (suc n) (λ e. absurd (omega (arith, e)))) ∙ octal_is (suc n)

pub octal_first : (n : ℕ) (text : List ℕ) → length text ≡ 11 → padded 6 (significant 64 n) ++ drop 11 text ≡ six_octal_digits n
octal_first n text len = ap (λ xs. padded 6 (significant 64 n) ++ xs) (drop_all 11 text (omega (arith, len))) ∙ append-nil (padded 6 (significant 64 n)) ∙ octal_all n

pub octal_step : (at before n : ℕ) (text all : List ℕ) → before + 1 ≡ at → at ≤ length text → (5 < at) ⊎ (n ≢ 0) → padded (at - 5) (significant (at + 53) n) ++ drop at text ≡ all
    → padded (before - 5) (significant (before + 53) (n / 8)) ++ drop before (slice_set text before (48 + n % 8)) ≡ all
octal_step at before n text all is within more so =
    let fewer : at - 5 - 1 ≡ before - 5 = omega (arith, is) in
    let deeper : suc (before + 53) ≡ at + 53 = omega (arith, is) in
    ap (λ xs. padded (before - 5) (significant (before + 53) (n / 8)) ++ xs) (drop-set text before (48 + n % 8) (omega (arith, is, within)) ∙ ap (λ j. (48 + n % 8) ∷ drop j text) is)
    ∙ sym (append_assoc (padded (before - 5) (significant (before + 53) (n / 8))) ((48 + n % 8) ∷ []) (drop at text))
    ∙ ap (λ xs. xs ++ drop at text) (ap (λ w. padded w (significant (before + 53) (n / 8)) ++ (48 + n % 8) ∷ []) (sym fewer) ∙ sym (octal_one (before + 53) (at - 5) n (⊎_elim (λ m. inl (omega (arith, m))) inr more)) ∙ ap (λ k. padded (at - 5) (significant k n)) deeper)
    ∙ so

pub octal_last : (at n : ℕ) (text all : List ℕ) → at ≤ 5 → n ≡ 0 → padded (at - 5) (significant (at + 53) n) ++ drop at text ≡ all → drop at text ≡ all
octal_last at n text all few none so =
    let none_left : at - 5 ≡ 0 = omega (arith, few) in
    ap (λ xs. xs ++ drop at text) (sym (no_digits n none (at + 53) (at - 5) ∙ ap (λ w. padded w []) none_left)) ∙ so

-- the digits fit
pub octal_left : (at n : ℕ) → (5 < at) ⊎ (n ≢ 0) → n < 8 ^ at → 0 < at
octal_left zero n (inl more) fits = absurd (omega (arith, more))
octal_left zero n (inr some) fits = absurd (some (omega (arith, fits)))
octal_left (suc at) n more fits = omega arith

pub octal_fits : (at n : ℕ) → 0 < at → n < 8 ^ at → n / 8 < 8 ^ (at - 1)
octal_fits (suc at) n some fits = let one : suc at - 1 ≡ at = omega arith in subst (λ j. n / 8 < 8 ^ j) (sym one) (omega (arith, fits, pow-suc 8 at))
octal_fits zero n some fits = absurd (omega (arith, some))
