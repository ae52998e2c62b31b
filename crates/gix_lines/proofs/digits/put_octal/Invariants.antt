use Rattle.std.proofs.Common.{◌≡◌, ◌<◌, ◌≤◌, ◌+◌, ◌-◌, ◌^◌, ◌++◌, drop, length}
use Rattle.gix_lines.specs.Files.{six_octal_digits}
use Rattle.gix_lines.proofs.Octal.{padded, significant}
use Rattle.gix_lines.proofs.digits.put_octal.Given as goal

-- the digits of what is left, followed by those that are written, are the digits of the mode
abbrev pub invariant-digits : goal.invariant-digits
invariant-digits l = record {
  at : l.at ≤ 11;
  len : length l.text ≡ 11;
  fits : l.rest < 8 ^ l.at;
  digits : padded (l.at - 5) (significant (l.at + 53) l.rest) ++ drop l.at l.text ≡ six_octal_digits l.fn.mode;
}

abbrev pub decreases-digits : goal.decreases-digits
decreases-digits l = l.at
