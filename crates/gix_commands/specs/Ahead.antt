-- The line that two numbers of commits are written as.
use Rattle.std.specs.Prelude.{ℕ, List, [], ◌∷◌, ◌++◌, false}
use Rattle.std.specs.Fmt.{digits}

-- two numbers in decimal digits with a space between them, and a newline
abbrev pub ahead_line : ℕ → ℕ → List ℕ
ahead_line ahead behind = digits 10 false ahead ++ 32 ∷ (digits 10 false behind ++ 10 ∷ [])
