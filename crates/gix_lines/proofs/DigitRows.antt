-- A row of digits, one of each byte.
use Rattle.std.proofs.Common.{◌≡◌, ◌<◌, ◌+◌, ℕ, List, ⊎_elim, length, slice_index, slice_set, sym, ap, ◌∙◌, arith}
use Rattle.std.proofs.lemmas.Bool.{cases_eq}
use Rattle.std.proofs.lemmas.List.{get_or-set_other, get_or-set_same, length-set}

-- the digits of the first i bytes are in a row that has room for those of all
pub record HasDigits (bytes : List ℕ) (digit : ℕ → ℕ) (i : ℕ) (row : List ℕ) : Type 0 where
  pub room : length row ≡ length bytes
  pub digits : (k : ℕ) → k < i → slice_index row k ≡ digit (slice_index bytes k)

pub no_digits : (bytes : List ℕ) (digit : ℕ → ℕ) (row : List ℕ) → length row ≡ length bytes → HasDigits bytes digit 0 row
no_digits bytes digit row room = record { room = room; digits = λ k l. absurd (omega (arith, l)) }

pub one_digit : (bytes : List ℕ) (digit : ℕ → ℕ) (i d : ℕ) (row : List ℕ) → i < length bytes → d ≡ digit (slice_index bytes i) → HasDigits bytes digit i row → HasDigits bytes digit (i + 1) (slice_set row i d)
one_digit bytes digit i d row within is h = record {
  room = length-set row i d ∙ h.room;
  digits = λ k l. ⊎_elim
      (λ same. ap (slice_index (slice_set row i d)) same ∙ get_or-set_same row i d 0 (omega (arith, h.room, within)) ∙ is ∙ ap (λ j. digit (slice_index bytes j)) (sym same))
      (λ other. get_or-set_other row i k d 0 other ∙ h.digits k (omega (arith, l, other))) (cases_eq k i);
}
