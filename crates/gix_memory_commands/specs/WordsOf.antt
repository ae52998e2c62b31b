-- The words in a text: what is between spaces and newlines.
use Rattle.std.specs.Prelude.{ℕ, ◌==◌, List, [], ◌∷◌, Bool, ◌||◌, if◌then◌else◌}
use Rattle.gix_statement.specs.Formats.{onto}

-- whether this byte, a space or a newline, is between words
abbrev pub is_between : ℕ → Bool
is_between b = b == 32 || b == 10

-- there is always a first word, which may be empty
abbrev pub words_of : List ℕ → List (List ℕ)
words_of [] = [] ∷ []
words_of (b ∷ bs) = if is_between b then [] ∷ words_of bs else onto b (words_of bs)
