-- The words of a text, found one after the other.
use Rattle.std.proofs.Common.{ℕ, zero, suc, ◌≡◌, ◌<◌, List, [], ◌∷◌, ◌++◌, Bool, true, false, length, take, drop, map, refl, ap, ◌∙◌, arith, get_or}
use Rattle.std.specs.Str.Lossy.{utf8_lossy}
use Rattle.std.proofs.lemmas.Bool.{cond-false, cond-true}
use Rattle.gix_statement.specs.Formats.{onto}
use Rattle.gix_memory_commands.specs.WordsOf.{is_between, words_of}

is_false : (t : Bool) → (t ≡ true → ⊥) → t ≡ false
is_false true never = absurd (never refl)
is_false false never = refl

-- nothing in the text is between words
pub words_last : (text : List ℕ) → ((i : ℕ) → i < length text → is_between (get_or text i 0) ≡ true → ⊥) → words_of text ≡ text ∷ []
words_last [] never = refl
words_last (b ∷ bs) never =
    cond-false (is_between b) _ _ (is_false _ (never 0 (omega arith)))
    ∙ ap (onto b) (words_last bs (λ i l. never (suc i) (omega (arith, l))))

-- the first byte between words is at n
pub words_next : (text : List ℕ) (n : ℕ) → n < length text → is_between (get_or text n 0) ≡ true → ((i : ℕ) → i < n → is_between (get_or text i 0) ≡ true → ⊥)
    → words_of text ≡ take n text ∷ words_of (drop (suc n) text)
words_next [] n l at before = absurd (omega (arith, l))
words_next (b ∷ bs) zero l at before = cond-true (is_between b) _ _ at
words_next (b ∷ bs) (suc n) l at before =
    cond-false (is_between b) _ _ (is_false _ (before 0 (omega arith)))
    ∙ ap (onto b) (words_next bs n (omega (arith, l)) at (λ i k. before (suc i) (omega (arith, k))))

-- a word that holds a text was put behind others
pub words_put : {Word : Type 0} (bytes : Word → List ℕ) (words : List Word) (word : Word) (text : List ℕ) (behind : List (List ℕ)) → bytes word ≡ utf8_lossy text
    → map bytes (words ++ word ∷ []) ++ map utf8_lossy behind ≡ map bytes words ++ map utf8_lossy (text ∷ behind)
words_put bytes [] word text behind e = ap (λ w. w ∷ map utf8_lossy behind) e
words_put bytes (w ∷ words) word text behind e = ap (λ ws. bytes w ∷ ws) (words_put bytes words word text behind e)
