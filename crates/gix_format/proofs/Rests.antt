-- What the rest of a format says, by its first byte.
use Rattle.std.proofs.Common.{ℕ, suc, ◌≡◌, ◌+◌, ◌<◌, ◌==◌, ◌&&◌, ◌||◌, List, ◌∷◌, ◌++◌, Bool, true, false, length, drop, drop-cons, get_or, refl, ap, ◌∙◌, arith}
use Rattle.std.proofs.lemmas.Bool.{cond-false, cond-true, eqb-true}
use Rattle.std.proofs.lemmas.Bool.Decides.{nat_tests}
use Rattle.gix_statement.specs.Formats.{Commit, formatted}
use Rattle.gix_format.specs.Pieces.{field_text}

-- `formatted`, by a name that stays closed
rest_text : Commit → (before : ℕ) → List ℕ → List ℕ
rest_text c before text = formatted c before text

first : (c : Commit) (before : ℕ) (text : List ℕ) (i : ℕ) → i < length text
    → rest_text c before (drop i text) ≡ rest_text c before (get_or text i 0 ∷ drop (i + 1) text)
first c before text i at =
    ap (rest_text c before) (drop-cons text i 0 at)
    ∙ ap (λ k. rest_text c before (get_or text i 0 ∷ drop k text)) {x = suc i} {y = i + 1} (omega arith)

percent : (c : Commit) (b : ℕ) (text : List ℕ) → b ≡ 37 → rest_text c 0 (b ∷ text) ≡ rest_text c 37 text
unfolding rest_text
percent c b text is = cond-true (b == 37) _ _ (ap (λ n. n == 37) is)

other : (c : Commit) (b : ℕ) (text : List ℕ) → (b ≡ 37 → ⊥) → rest_text c 0 (b ∷ text) ≡ b ∷ rest_text c 0 text
unfolding rest_text
other c b text never = cond-false (b == 37) _ _ (differs b never)
  where
    differs : (b : ℕ) → (b ≡ 37 → ⊥) → (b == 37) ≡ false
    differs b other = grind (arith, nat_tests)

person : (c : Commit) (b : ℕ) (text : List ℕ) → (b == 97 || b == 99) ≡ true → rest_text c 37 (b ∷ text) ≡ rest_text c b text
unfolding rest_text
person c b text is = cond-true (b == 97 || b == 99) _ _ is

field : (c : Commit) (before b : ℕ) (text : List ℕ) → (before == 0) ≡ false → (before == 37 && (b == 97 || b == 99)) ≡ false
    → rest_text c before (b ∷ text) ≡ field_text c before b ++ rest_text c 0 text
unfolding rest_text field_text
field c before b text some is = cond-false (before == 0) _ _ some ∙ cond-false (before == 37 && (b == 97 || b == 99)) _ _ is

pub at_percent : (c : Commit) (before : ℕ) (text : List ℕ) (i : ℕ) → i < length text → before ≡ 0 → get_or text i 0 ≡ 37
    → formatted c before (drop i text) ≡ formatted c 37 (drop (i + 1) text)
unfolding rest_text
at_percent c before text i at none is =
    ap (λ b. rest_text c b (drop i text)) none ∙ first c 0 text i at ∙ percent c (get_or text i 0) (drop (i + 1) text) is

pub at_other : (c : Commit) (before : ℕ) (text : List ℕ) (i : ℕ) → i < length text → before ≡ 0 → (get_or text i 0 ≡ 37 → ⊥)
    → formatted c before (drop i text) ≡ get_or text i 0 ∷ formatted c 0 (drop (i + 1) text)
unfolding rest_text
at_other c before text i at none never =
    ap (λ b. rest_text c b (drop i text)) none ∙ first c 0 text i at ∙ other c (get_or text i 0) (drop (i + 1) text) never

pub at_person : (c : Commit) (before : ℕ) (text : List ℕ) (i : ℕ) → i < length text → (before == 37 && (get_or text i 0 == 97 || get_or text i 0 == 99)) ≡ true
    → formatted c before (drop i text) ≡ formatted c (get_or text i 0) (drop (i + 1) text)
unfolding rest_text
at_person c before text i at is =
    let parts = both (before == 37) (get_or text i 0 == 97 || get_or text i 0 == 99) is in
    let here = eqb-true before 37 parts.0 in
    ap (λ b. rest_text c b (drop i text)) here ∙ first c 37 text i at ∙ person c (get_or text i 0) (drop (i + 1) text) parts.1
  where
    both : (s t : Bool) → (s && t) ≡ true → (s ≡ true) × (t ≡ true)
    both true t is = (refl, is)
    both false t is = cc

pub at_field : (c : Commit) (before : ℕ) (text : List ℕ) (i : ℕ) → i < length text → (before ≡ 0 → ⊥)
    → (before == 37 && (get_or text i 0 == 97 || get_or text i 0 == 99)) ≡ false
    → formatted c before (drop i text) ≡ field_text c before (get_or text i 0) ++ formatted c 0 (drop (i + 1) text)
unfolding rest_text
at_field c before text i at some is =
    first c before text i at ∙ field c before (get_or text i 0) (drop (i + 1) text) (test before some) is
  where
    test : (b : ℕ) → (b ≡ 0 → ⊥) → (b == 0) ≡ false
    test b other = grind (arith, nat_tests)
