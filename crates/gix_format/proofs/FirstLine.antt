-- The first line of a text, by the place of its end.
use Rattle.std.proofs.Common.{ℕ, zero, suc, ◌≡◌, ◌<◌, List, [], ◌∷◌, true, length, take, drop, refl, ap, ◌∙◌, arith, get_or}
use Rattle.std.proofs.lemmas.Bool.{cond-false, cond-true}
use Rattle.gix_statement.specs.Formats.{ends, onto, lines_in}
use Rattle.gix_format.proofs.FirstByte.{other}

-- a byte of the line
within : (b : ℕ) (text : List ℕ) → (ends b ≡ true → ⊥) → lines_in (b ∷ text) ≡ onto b (lines_in text)
within b text never = cond-false (ends b) _ _ (other (ends b) never)

-- there is no end in the text
pub one_line : (text : List ℕ) → ((i : ℕ) → i < length text → ends (get_or text i 0) ≡ true → ⊥) → lines_in text ≡ text ∷ []
one_line [] never = refl
one_line (b ∷ text) never =
    within b text (never 0 (omega arith)) ∙ ap (onto b) (one_line text (λ i l. never (suc i) (omega (arith, l))))

-- the first end is here
pub line_before : (text : List ℕ) (n : ℕ) → n < length text → ends (get_or text n 0) ≡ true
    → ((i : ℕ) → i < n → ends (get_or text i 0) ≡ true → ⊥) → lines_in text ≡ take n text ∷ lines_in (drop (suc n) text)
line_before [] n l at before = absurd (omega (arith, l))
line_before (b ∷ text) zero l at before = cond-true (ends b) _ _ at
line_before (b ∷ text) (suc n) l at before =
    within b text (before 0 (omega arith)) ∙ ap (onto b) (line_before text n (omega (arith, l)) at (λ i k. before (suc i) (omega (arith, k))))
