-- Numbers in decimal digits.
use Rattle.std.specs.Prelude.{ℕ, ◌+◌, ◌-◌, ◌*◌, nat_lt, nat_le, ◌&&◌, List, [], ◌∷◌, length, Option, Some, None, if◌then◌else◌}
use Rattle.std.specs.Char.{is_ascii_digit}

-- the number that digits spell after digits that spelled n
abbrev pub digits_behind : ℕ → List ℕ → Option ℕ
digits_behind n [] = Some n
digits_behind n (d ∷ ds) = if is_ascii_digit d then digits_behind (10 * n + (d - 48)) ds else None

-- the number that 1 to 10 decimal digits spell
abbrev pub decimal : List ℕ → Option ℕ
decimal digits = if nat_lt 0 (length digits) && nat_le (length digits) 10 then digits_behind 0 digits else None
