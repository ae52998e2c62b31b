-- What the text that is left adds to a subject, which has begun or hasn't.
use Rattle.std.proofs.Common.{ℕ, suc, ◌≡◌, ◌+◌, ◌==◌, List, [], ◌∷◌, ◌++◌, Bool, true, false, length, map, take, drop, refl, ap, sym, ◌∙◌, arith}
use Rattle.std.specs.Prelude.{flat_map, not}
use Rattle.std.specs.List.{before_first, prefix_len}
use Rattle.std.proofs.Math.Dec.{eqb-suc-zero}
use Rattle.std.proofs.lemmas.Bool.{cond-false, cond-true}
use Rattle.gix_statement.specs.Formats.{lines_in, message, trimmed}
use Rattle.gix_format.specs.Pieces.{subject_text}

-- lines up to a blank one, each with a space before it
abbrev up_to_blank : List (List ℕ) → List ℕ
up_to_blank [] = []
up_to_blank ([] ∷ lines) = []
up_to_blank ((b ∷ line) ∷ lines) = 32 ∷ b ∷ (line ++ up_to_blank lines)

-- lines from the first that isn't blank
abbrev from_text : List (List ℕ) → List (List ℕ)
from_text [] = []
from_text ([] ∷ lines) = from_text lines
from_text ((b ∷ line) ∷ lines) = (b ∷ line) ∷ lines

abbrev pub lines_add : Bool → List (List ℕ) → List ℕ
lines_add false lines = drop 1 (up_to_blank (from_text lines))
lines_add true lines = up_to_blank lines

abbrev pub left_adds : Bool → List ℕ → List ℕ
left_adds has_begun text = lines_add has_begun (map trimmed (lines_in text))

abbrev is_blank : List ℕ → Bool
is_blank line = length line == 0

one : (n : ℕ) → suc n ≡ 1 + n
one n = omega arith

before_blank : (lines : List (List ℕ)) → up_to_blank lines ≡ flat_map (λ line. 32 ∷ line) (before_first is_blank lines)
before_blank [] = refl
before_blank ([] ∷ lines) = refl
before_blank ((b ∷ line) ∷ lines) =
    ap (λ (rest : List ℕ). 32 ∷ b ∷ (line ++ rest)) (before_blank lines)
    ∙ ap (λ n. flat_map (λ line. 32 ∷ line) (take n ((b ∷ line) ∷ lines))) (one (prefix_len (λ line. not (is_blank line)) lines) ∙ sym more)
  where
    more : prefix_len (λ line. not (is_blank line)) ((b ∷ line) ∷ lines) ≡ 1 + prefix_len (λ line. not (is_blank line)) lines
    more = cond-true _ _ _ (ap not (eqb-suc-zero (length line)))

behind_blank : (lines : List (List ℕ)) → from_text lines ≡ drop (prefix_len is_blank lines) lines
behind_blank [] = refl
behind_blank ([] ∷ lines) = behind_blank lines ∙ ap (λ n. drop n ([] ∷ lines)) (one (prefix_len is_blank lines))
behind_blank ((b ∷ line) ∷ lines) = ap (λ n. drop n ((b ∷ line) ∷ lines)) (sym none)
  where
    none : prefix_len is_blank ((b ∷ line) ∷ lines) ≡ 0
    none = cond-false _ _ _ (eqb-suc-zero (length line))

joined : (lines : List (List ℕ))
    → drop 1 (flat_map (λ line. 32 ∷ line) (before_first is_blank (drop (prefix_len is_blank lines) lines))) ≡ lines_add false lines
joined lines =
    ap (λ those. drop 1 (flat_map (λ line. 32 ∷ line) (before_first is_blank those))) (sym (behind_blank lines))
    ∙ ap (drop 1) (sym (before_blank (from_text lines)))

pub subject_is : (text : List ℕ) → subject_text text ≡ left_adds false (message true text)
unfolding subject_text
subject_is text = joined (map trimmed (lines_in (message true text)))
