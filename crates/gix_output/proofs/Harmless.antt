-- What is quoted holds no command of a terminal.
use Rattle.std.proofs.Common.{ℕ, ◌≡◌, ◌+◌, ◌<◌, ◌≤◌, ◌/◌, ◌%◌, List, [], ◌∷◌, ◌++◌, Bool, true, false, if◌then◌else◌, refl, ap, ◌∙◌, arith}
use Rattle.std.proofs.lemmas.Bool.{cond-false}
use Rattle.std.proofs.lemmas.Bool.Decides.{nat_tests}
use Rattle.gix_output.specs.Terminal.{IsHarmless, QuotesWhatSteers, octal, quoted, steers}

plain : (before b : ℕ) → 32 ≤ b → b < 127 → steers before b ≡ false
plain before b low high = grind (arith, nat_tests)

steering_is_low : (before b : ℕ) → steers before b ≡ true → b < 160
steering_is_low before b is = grind (arith, nat_tests)

behind_another : (a before b : ℕ) → a < 194 → steers before b ≡ false → steers a b ≡ false
behind_another a before b low is = grind (arith, nat_tests)

harmless_behind : (a before : ℕ) (text : List ℕ) → a < 194 → IsHarmless before text → IsHarmless a text
harmless_behind a before [] low is = tt
harmless_behind a before (b ∷ text) low (is, rest) = (behind_another a before b low is, rest)

harmless : (before : ℕ) (text : List ℕ) → IsHarmless before (quoted before text)
harmless before [] = tt
harmless before (b ∷ text) = by_test (harmless b text) (steers before b) refl
  where
    by_test : IsHarmless b (quoted b text) → (t : Bool) → steers before b ≡ t → IsHarmless before ((if t then octal b else b ∷ []) ++ quoted b text)
    by_test rest true is =
        let low = steering_is_low before b is in
        let first = plain before 92 (omega arith) (omega arith) in
        let second = plain 92 (48 + b / 64) (omega arith) (omega arith) in
        let third = plain (48 + b / 64) (48 + b / 8 % 8) (omega arith) (omega arith) in
        let fourth = plain (48 + b / 8 % 8) (48 + b % 8) (omega arith) (omega arith) in
        (first, (second, (third, (fourth, harmless_behind (48 + b % 8) b (quoted b text) (omega arith) rest))))
    by_test rest false is = (is, rest)

unchanged : (before : ℕ) (text : List ℕ) → IsHarmless before text → quoted before text ≡ text
unchanged before [] is = refl
unchanged before (b ∷ text) (is, rest) = ap (λ s. s ++ quoted b text) (cond-false _ _ _ is) ∙ ap (λ s. b ∷ s) (unchanged b text rest)

pub quotes_what_steers : QuotesWhatSteers
quotes_what_steers before text = (harmless before text, unchanged before text)
