-- What is before the first such byte of a text, and what is behind it.
use Rattle.std.proofs.Common.{ℕ, zero, suc, ◌≡◌, ◌+◌, ◌<◌, ◌==◌, List, [], ◌∷◌, Bool, true, false, length, take, take_all, drop, refl, ap, ◌∙◌, arith, get_or}
use Rattle.std.specs.Prelude.{not}
use Rattle.std.specs.List.{after_first, before_first, position_or_len}
use Rattle.std.proofs.lemmas.Bool.{cond-false, cond-true}
use Rattle.std.proofs.lemmas.List.{drop_all}

abbrev Is : ℕ → ℕ → Type 0
Is byte b = (b == byte) ≡ true

pub other : (t : Bool) → (t ≡ true → ⊥) → t ≡ false
other true never = absurd (never refl)
other false never = refl

-- where it is, and the length where there is none
place : ℕ → List ℕ → ℕ
place byte text = position_or_len (λ b. b == byte) text

passed : (byte b : ℕ) (text : List ℕ) → (Is byte b → ⊥) → place byte (b ∷ text) ≡ suc (place byte text)
unfolding place
passed byte b text never = cond-true _ _ _ (ap not (other (b == byte) never)) ∙ one (place byte text)
  where
    one : (n : ℕ) → 1 + n ≡ suc n
    one n = omega arith

no_place : (byte : ℕ) (text : List ℕ) → ((i : ℕ) → i < length text → Is byte (get_or text i 0) → ⊥) → place byte text ≡ length text
unfolding place
no_place byte [] never = refl
no_place byte (b ∷ text) never =
    passed byte b text (never 0 (omega arith)) ∙ ap suc (no_place byte text (λ i l. never (suc i) (omega (arith, l))))

first_place : (byte : ℕ) (text : List ℕ) (n : ℕ) → n < length text → Is byte (get_or text n 0)
    → ((i : ℕ) → i < n → Is byte (get_or text i 0) → ⊥) → place byte text ≡ n
unfolding place
first_place byte [] n l at never = absurd (omega (arith, l))
first_place byte (b ∷ text) zero l at never = cond-false _ _ _ (ap not at)
first_place byte (b ∷ text) (suc n) l at never =
    passed byte b text (never 0 (omega arith))
    ∙ ap suc (first_place byte text n (omega (arith, l)) at (λ i k. never (suc i) (omega (arith, k))))

-- there is no such byte
pub all_before : (byte : ℕ) (text : List ℕ) → ((i : ℕ) → i < length text → Is byte (get_or text i 0) → ⊥)
    → before_first (λ b. b == byte) text ≡ text
unfolding place
all_before byte text never = ap (λ n. take n text) (no_place byte text never) ∙ take_all (length text) text (omega arith)

pub none_behind : (byte : ℕ) (text : List ℕ) → ((i : ℕ) → i < length text → Is byte (get_or text i 0) → ⊥)
    → after_first (λ b. b == byte) text ≡ []
unfolding place
none_behind byte text never =
    ap (λ n. drop (n + 1) text) (no_place byte text never) ∙ drop_all (length text + 1) text (omega arith)

-- the first is here
pub before_here : (byte : ℕ) (text : List ℕ) (n : ℕ) → n < length text → Is byte (get_or text n 0)
    → ((i : ℕ) → i < n → Is byte (get_or text i 0) → ⊥) → before_first (λ b. b == byte) text ≡ take n text
unfolding place
before_here byte text n l at never = ap (λ k. take k text) (first_place byte text n l at never)

pub behind_here : (byte : ℕ) (text : List ℕ) (n : ℕ) → n < length text → Is byte (get_or text n 0)
    → ((i : ℕ) → i < n → Is byte (get_or text i 0) → ⊥) → after_first (λ b. b == byte) text ≡ drop (n + 1) text
unfolding place
behind_here byte text n l at never = ap (λ k. drop (k + 1) text) (first_place byte text n l at never)
