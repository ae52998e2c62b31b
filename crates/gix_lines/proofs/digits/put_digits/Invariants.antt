use Rattle.std.proofs.Common.{◌≡◌, ◌*◌, ◌++◌, ◌/◌, ◌%◌, take, drop, slice_index}
use Rattle.hex.specs.Hex.{encode_lower, lower_digits}
use Rattle.gix_lines.proofs.DigitRows.{HasDigits}
use Rattle.gix_lines.proofs.digits.put_digits.Given as goal

-- the digits of the bytes so far are found
abbrev pub invariant-bytes : goal.invariant-bytes
invariant-bytes g l = record {
  first : HasDigits l.bytes (λ b. slice_index lower_digits (b / 16)) l.i l.first;
  second : HasDigits l.bytes (λ b. slice_index lower_digits (b % 16)) l.i l.second;
}

-- the digits that are written, followed by the digits of the bytes that are left, are the digits of all bytes
abbrev pub invariant-pairs : goal.invariant-pairs
invariant-pairs g l = take (2 * l.i) l.text ++ encode_lower (drop l.i l.bytes) ≡ encode_lower l.bytes
