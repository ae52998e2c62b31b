-- Worked examples of numbers and records.
use Rattle.std.specs.Prelude.{◌≡◌, [], codes, Some, None, refl}
use Rattle.gix_records.specs.Decimal.{decimal}

pub leading_zeros : decimal (codes "0000000096") ≡ Some 96
leading_zeros = refl

pub no_digits : decimal [] ≡ None
no_digits = refl

pub eleven_digits : decimal (codes "00000000096") ≡ None
eleven_digits = refl

pub sign : decimal (codes "-1") ≡ None
sign = refl
