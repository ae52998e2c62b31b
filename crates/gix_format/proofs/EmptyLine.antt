-- The first empty line of a text, by the end at its front.
use Rattle.std.proofs.Common.{ℕ, zero, suc, ◌≡◌, ◌<◌, ◌==◌, ◌&&◌, List, [], ◌∷◌, Bool, true, false, length, drop, refl, ap, ◌∙◌, arith, get_or}
use Rattle.std.specs.List.{before_first}
use Rattle.std.proofs.lemmas.Bool.{cond-false, cond-true, false≢true}
use Rattle.gix_statement.specs.Formats.{ends, message}
use Rattle.gix_format.proofs.FirstByte.{other}

abbrev IsEnd : ℕ → Type 0
IsEnd b = ends b ≡ true

both : (s t : Bool) → (t ≡ true → ⊥) → (s && t) ≡ false
both true true never = absurd (never refl)
both true false never = refl
both false t never = refl

-- a byte of a line
passed : (at_start : Bool) (b : ℕ) (text : List ℕ) → (IsEnd b → ⊥) → message at_start (b ∷ text) ≡ message false text
passed at_start b text never =
    cond-false _ _ _ (both at_start (ends b) never) ∙ ap (λ is. message is text) (other (ends b) never)

-- the end of a line that isn't empty
ended : (s t : Bool) → (s ≡ true → ⊥) → (s && t) ≡ false
ended true t never = absurd (never refl)
ended false t never = refl

-- a line that isn't empty is passed over
pub line_passed : (at_start : Bool) (text : List ℕ) (n : ℕ) → n < length text → IsEnd (get_or text n 0)
    → ((i : ℕ) → i < n → IsEnd (get_or text i 0) → ⊥) → (at_start ≡ true → n ≡ 0 → ⊥)
    → message at_start text ≡ message true (drop 1 (drop n text))
line_passed at_start [] n l at none some = absurd (omega (arith, l))
line_passed at_start (b ∷ text) zero l at none some =
    cond-false _ _ _ (ended at_start (ends b) (λ e. some e refl)) ∙ ap (λ is. message is text) at
line_passed at_start (b ∷ text) (suc n) l at none some =
    passed at_start b text (none 0 (omega arith))
    ∙ line_passed false text n (omega (arith, l)) at (λ i k. none (suc i) (omega (arith, k))) (λ e _. false≢true e)

-- an empty line is the last
pub line_empty : (text : List ℕ) (n : ℕ) → n < length text → n ≡ 0 → IsEnd (get_or text n 0) → message true text ≡ before_first (λ b. b == 0) text
line_empty [] n l first at = absurd (omega (arith, l))
line_empty (b ∷ text) zero l first at = cond-true _ _ _ at
line_empty (b ∷ text) (suc n) l first at = absurd (omega (arith, first))

-- a text without an end has no empty line
pub no_line : (at_start : Bool) (text : List ℕ) → ((i : ℕ) → i < length text → IsEnd (get_or text i 0) → ⊥) → message at_start text ≡ []
no_line at_start [] none = refl
no_line at_start (b ∷ text) none =
    passed at_start b text (none 0 (omega arith)) ∙ no_line false text (λ i k. none (suc i) (omega (arith, k)))
