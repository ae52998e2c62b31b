-- What a terminal is given. Bytes that it would take as commands are quoted as git quotes them. 10 is a newline, 48 `0`, 92 a backslash.
use Rattle.std.specs.Prelude.{◌≡◌, ℕ, ◌+◌, ◌/◌, ◌%◌, ◌==◌, ◌&&◌, ◌||◌, nat_lt, nat_le, List, [], ◌∷◌, ◌++◌, not, Bool, false, if◌then◌else◌}

-- A byte below 32 but a newline, 127, or in UTF-8 a character from U+0080 to U+009F, which is 194 and a byte from 128 to 159
abbrev pub steers : (before b : ℕ) → Bool
steers before b = nat_lt b 32 && not (b == 10) || b == 127 || before == 194 && nat_le 128 b && nat_lt b 160

abbrev pub octal : ℕ → List ℕ
octal b = 92 ∷ (48 + b / 64) ∷ (48 + b / 8 % 8) ∷ (48 + b % 8) ∷ []

abbrev pub shown : (before b : ℕ) → List ℕ
shown before b = if steers before b then octal b else b ∷ []

abbrev pub quoted : (before : ℕ) → List ℕ → List ℕ
quoted before [] = []
quoted before (b ∷ text) = shown before b ++ quoted b text

-- the last byte of a text, and this one where there is none
abbrev pub last_or : (before : ℕ) → List ℕ → ℕ
last_or before [] = before
last_or before (b ∷ text) = last_or b text

-- no byte of a text behind this one steers
abbrev pub IsHarmless : (before : ℕ) → List ℕ → Type 0
IsHarmless before [] = Unit {0}
IsHarmless before (b ∷ text) = (steers before b ≡ false) × IsHarmless b text

-- Nothing that is written steers, and what doesn't is written as it is.
abbrev pub QuotesWhatSteers : Type 0
QuotesWhatSteers = (before : ℕ) (text : List ℕ) → IsHarmless before (quoted before text) × (IsHarmless before text → quoted before text ≡ text)

-- A text in two pieces is written as in one.
abbrev pub QuotesInPieces : Type 0
QuotesInPieces = (before : ℕ) (first next : List ℕ) → quoted before (first ++ next) ≡ quoted before first ++ quoted (last_or before first) next
