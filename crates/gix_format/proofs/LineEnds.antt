-- White space at the end of a line.
use Rattle.std.proofs.Common.{ℕ, ◌≡◌, ◌+◌, ◌-◌, ◌≤◌, ◌==◌, ◌||◌, ◌&&◌, List, [], ◌∷◌, ◌++◌, Bool, true, false, length, take, take_all, get_or, refl, ap, sym, ◌∙◌, arith, cond}
use Rattle.std.proofs.lemmas.Bool.{cond-false, cond-true}
use Rattle.std.proofs.lemmas.List.{take_more}
use Rattle.std.proofs.Math.Dec.{eqb-suc-zero}
use Rattle.gix_statement.specs.Formats.{trimmed}

abbrev before : ℕ → List ℕ → List ℕ  -- a byte before a line that was trimmed
before b line = cond (length line == 0 && (b == 32 || b == 9 || b == 13)) [] (b ∷ line)

-- white space at the end is left out
trimmed-white : (front : List ℕ) (b : ℕ) → (b == 32 || b == 9 || b == 13) ≡ true → trimmed (front ++ b ∷ []) ≡ trimmed front
trimmed-white [] b white = cond-true _ _ _ white
trimmed-white (c ∷ front) b white = ap (before c) (trimmed-white front b white)

-- a line that ends otherwise is as it is
trimmed-other : (front : List ℕ) (b : ℕ) → (b == 32 || b == 9 || b == 13) ≡ false → trimmed (front ++ b ∷ []) ≡ front ++ b ∷ []
trimmed-other [] b other = cond-false _ _ _ other
trimmed-other (c ∷ front) b other =
    ap (before c) (trimmed-other front b other) ∙ cond-false _ _ _ (some front (c == 32 || c == 9 || c == 13))
  where
    some : (front : List ℕ) (white : Bool) → (length (front ++ b ∷ []) == 0 && white) ≡ false
    some [] white = refl
    some (d ∷ front) white = ap (λ is. is && white) (eqb-suc-zero (length (front ++ b ∷ [])))

abbrev last : List ℕ → ℕ
last line = get_or line (length line - 1) 0

by_last : (line : List ℕ) → 1 ≤ length line → line ≡ take (length line - 1) line ++ last line ∷ []
by_last line some =
    sym (ap (λ n. take n line) {x = length line - 1 + 1} {y = length line} (omega arith) ∙ take_all (length line) line (omega arith))
    ∙ take_more line (length line - 1) 0 (omega arith)

pub trimmed_front : (line : List ℕ) → 1 ≤ length line → true ≡ (last line == 32 || last line == 9 || last line == 13)
    → trimmed (take (length line - 1) line) ≡ trimmed line
trimmed_front line some white = sym (ap trimmed (by_last line some) ∙ trimmed-white (take (length line - 1) line) (last line) (sym white))

pub trimmed_whole : (line : List ℕ) → 1 ≤ length line → false ≡ (last line == 32 || last line == 9 || last line == 13) → trimmed line ≡ line
trimmed_whole line some other =
    ap trimmed (by_last line some) ∙ trimmed-other (take (length line - 1) line) (last line) (sym other) ∙ sym (by_last line some)
