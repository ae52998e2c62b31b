-- Numbers in digits.
use Rattle.std.proofs.Common.{ℕ, suc, ◌≡◌, ◌+◌, ◌-◌, ◌/◌, ◌%◌, ◌<◌, ◌≤◌, ◌^◌, ◌⊎◌, inl, inr, List, [], ◌∷◌, ◌++◌, true, false, length, length-append, replicate, refl, ap, ◌∙◌, arith}
use Rattle.std.specs.Prelude.{nat_lt}
use Rattle.std.specs.Fmt.{decimal}
use Rattle.std.proofs.lemmas.Fmt.{decimal_digit, decimal_step, decimal_nonempty}
use Rattle.std.proofs.lemmas.Bool.Decides.{nat_tests}
use Rattle.std.proofs.lemmas.Bool.{cases_lt}
use Rattle.gix_statement.specs.Formats.{padded}
use Rattle.gix_format.specs.Pieces.{after_year, two}

pub ltb-below : (m n : ℕ) → m < n → nat_lt m n ≡ true
ltb-below m n h = grind (arith, nat_tests)

pub ltb-above : (m n : ℕ) → n ≤ m → nat_lt m n ≡ false
ltb-above m n h = grind (arith, nat_tests)

abbrev filled : ℕ → List ℕ → List ℕ
filled width number = replicate (width - length number) 48 ++ number

more_digits : (n k : ℕ) → 10 ≤ n → n < 2 ^ 64 → k ≤ length (decimal (n / 10)) → suc k ≤ length (decimal n)
more_digits n k some fits more = omega (arith, ap length (decimal_step n some fits), length-append (decimal (n / 10)) ((48 + n % 10) ∷ []))

four_digits : (n : ℕ) → 1000 ≤ n → n < 2 ^ 64 → 4 ≤ length (decimal n)
four_digits n low fits =
    let first = decimal_nonempty (n / 10 / 10 / 10) (omega arith) in
    let second = more_digits (n / 10 / 10) 1 (omega arith) (omega arith) (omega (arith, first)) in
    let third = more_digits (n / 10) 2 (omega arith) (omega arith) second in
    more_digits n 3 (omega arith) fits third

pub four : (n : ℕ) → 1000 ≤ n → n < 2 ^ 64 → padded 4 n ≡ decimal n
four n low fits = ap (λ k. replicate k 48 ++ decimal n) {x = 4 - length (decimal n)} {y = 0} (omega (arith, four_digits n low fits))

pub two-is : (n : ℕ) → n < 100 → two n ≡ (48 + n / 10) ∷ (48 + n % 10) ∷ []
unfolding two
two-is n h = go (cases_lt n 10)
  where
    go : (n < 10) ⊎ (10 ≤ n) → padded 2 n ≡ (48 + n / 10) ∷ (48 + n % 10) ∷ []
    go (inl small) =
        let tens : 48 ≡ 48 + n / 10 = omega arith in
        let ones : 48 + n ≡ 48 + n % 10 = omega arith in
        ap (filled 2) (decimal_digit n small) ∙ ap (λ t. t ∷ (48 + n) ∷ []) tens ∙ ap (λ o. (48 + n / 10) ∷ o ∷ []) ones
    go (inr large) =
        ap (filled 2) (decimal_step n large (omega arith) ∙ ap (λ (t : List ℕ). t ++ (48 + n % 10) ∷ []) (decimal_digit (n / 10) (omega arith)))

pub after_year-is : (month day second : ℕ) → month < 100 → day < 100 → second < 86400
    → 45 ∷ (48 + month / 10) ∷ (48 + month % 10) ∷ 45 ∷ (48 + day / 10) ∷ (48 + day % 10) ∷ 32 ∷ (48 + second / 3600 / 10) ∷ (48 + second / 3600 % 10)
    ∷ 58 ∷ (48 + second / 60 % 60 / 10) ∷ (48 + second / 60 % 60 % 10) ∷ 58 ∷ (48 + second % 60 / 10) ∷ (48 + second % 60 % 10) ∷ 32 ∷ []
    ≡ after_year month day second
unfolding after_year
after_year-is month day second lm ld ls =
    rw (
      two-is month lm,
      two-is day ld,
      two-is (second / 3600) (omega arith),
      two-is (second / 60 % 60) (omega arith),
      two-is (second % 60) (omega arith),
    ) refl
