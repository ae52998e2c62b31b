-- The seconds of a signature: the bytes behind the last `>`, and the number that digits say.
use Rattle.std.proofs.Common.{ℕ, zero, suc, ◌==◌, Option, Some, ◌≡◌, ◌≤◌, ◌<◌, ◌+◌, ◌-◌, ◌*◌, Bool, true, false, List, [], ◌∷◌, length, drop, min, cond, refl, ap, inl, inr, ◌∙◌, arith, get_or, ne_eqb, eq-eqb}
use Rattle.std.proofs.lemmas.Bool.{cases_lt, cond-true, cond-false}
use Rattle.std.proofs.lemmas.List.{at_drop_more, at_drop_all}
use Rattle.std.specs.Char.{is_ascii_digit}
use Rattle.gix_object.specs.CommitText.{behind_last, digits_from}

-- digits behind others say no less
digits_from-le : (n : ℕ) (bytes : List ℕ) → n ≤ digits_from n bytes
digits_from-le n [] = omega arith
digits_from-le n (b ∷ bytes) = go (is_ascii_digit b) (digits_from-le (10 * n + (b - 48)) bytes)
  where
    go : (t : Bool) → 10 * n + (b - 48) ≤ digits_from (10 * n + (b - 48)) bytes → n ≤ cond t (digits_from (10 * n + (b - 48)) bytes) n
    go true h = omega arith
    go false h = omega arith

-- a cap before the digits is a cap behind them
pub digits_from-min : (most n : ℕ) (bytes : List ℕ) → min (digits_from (min n most) bytes) most ≡ min (digits_from n bytes) most
digits_from-min most n bytes =
    elim (cases_lt most n) [
      | inl above ↦ omega (arith, digits_from-le (min n most) bytes, digits_from-le n bytes)
      | inr within ↦ ap (λ k. min (digits_from k bytes) most) (let k : min n most ≡ n = omega arith in k)
    ]

-- one more digit
pub digits_more : (n : ℕ) (bytes : List ℕ) (i : ℕ) → i < length bytes → is_ascii_digit (get_or bytes i 0) ≡ true → digits_from n (drop i bytes) ≡ digits_from (10 * n + (get_or bytes i 0 - 48)) (drop (i + 1) bytes)
digits_more n bytes i l digit = at_drop_more (digits_from n) bytes i 0 l ∙ cond-true (is_ascii_digit (get_or bytes i 0)) _ _ digit

-- the end of the digits
pub digits_stop : (n : ℕ) (bytes : List ℕ) (i : ℕ) → i < length bytes → is_ascii_digit (get_or bytes i 0) ≡ false → digits_from n (drop i bytes) ≡ n
digits_stop n bytes i l other = at_drop_more (digits_from n) bytes i 0 l ∙ cond-false (is_ascii_digit (get_or bytes i 0)) _ _ other

pub digits_end : (n : ℕ) (bytes : List ℕ) (i : ℕ) → length bytes ≤ i → digits_from n (drop i bytes) ≡ n
digits_end n bytes i l = at_drop_all (digits_from n) bytes i l

pub behind_last_none : (found : Option (List ℕ)) (bytes : List ℕ) → ((i : ℕ) → i < length bytes → get_or bytes i 0 ≡ 62 → ⊥) → behind_last found bytes ≡ found
behind_last_none found [] never = refl
behind_last_none found (b ∷ bytes) never =
    ap (λ o. behind_last o bytes) (cond-false (b == 62) (Some bytes) found (ne_eqb b 62 (never 0 (omega arith)))) ∙ behind_last_none found bytes (λ i l e. never (suc i) (omega arith) e)

pub behind_last_at : (found : Option (List ℕ)) (bytes : List ℕ) (n : ℕ) → n < length bytes → get_or bytes n 0 ≡ 62 → ((i : ℕ) → n < i → i < length bytes → get_or bytes i 0 ≡ 62 → ⊥) → behind_last found bytes ≡ Some (drop (n + 1) bytes)
behind_last_at found [] n l at after = absurd (omega arith)
behind_last_at found (b ∷ bytes) zero l at after =
    ap (λ o. behind_last o bytes) (cond-true (b == 62) (Some bytes) found (eq-eqb b 62 at)) ∙ behind_last_none (Some bytes) bytes (λ i h e. after (suc i) (omega arith) (omega arith) e)
behind_last_at found (b ∷ bytes) (suc n) l at after =
    behind_last_at (cond (b == 62) (Some bytes) found) bytes n (omega arith) at (λ i l h e. after (suc i) (omega arith) (omega arith) e)
    ∙ ap (λ k. Some (drop k (b ∷ bytes))) (let k : suc (n + 1) ≡ suc n + 1 = omega arith in k)
