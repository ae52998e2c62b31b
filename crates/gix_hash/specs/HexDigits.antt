-- The bytes that hex digits spell, by their places.
use Rattle.std.specs.Prelude.{◌≡◌, ℕ, ◌+◌, ◌*◌, ◌<◌, ◌≤◌, true, List, slice_index, unwrap_or, Option}
use Rattle.std.specs.Result.{result_ok}
use Rattle.hex.specs.Hex.{hex_digit_value, is_hex_digit, decode_of}

-- the number that a digit says
abbrev pub value_of : ℕ → ℕ
value_of c = unwrap_or (hex_digit_value c) 0

-- the byte that the two digits from a place on spell
abbrev pub byte_at : List ℕ → ℕ → ℕ
byte_at digits i = value_of (slice_index digits i) * 16 + value_of (slice_index digits (i + 1))

-- from one place up to another there are digits alone
abbrev pub AreDigits : List ℕ → ℕ → ℕ → Type 0
AreDigits digits from to = (k : ℕ) → from ≤ k → k < to → is_hex_digit (slice_index digits k) ≡ true

-- the first so many bytes are the bytes that the digits from a place on spell
abbrev pub AreSpelled : List ℕ → ℕ → List ℕ → ℕ → Type 0
AreSpelled digits at bytes count = (k : ℕ) → k < count → slice_index bytes k ≡ byte_at digits (at + 2 * k)

-- what digits decode to, if they do
abbrev pub decoded : List ℕ → Option (List ℕ)
decoded digits = result_ok (decode_of digits)
