-- Worked examples of the digits of a mode.
use Rattle.std.specs.Prelude.{◌≡◌, codes, refl}
use Rattle.std.specs.Fmt.{digits}
use Rattle.gix_lines.specs.Files.{six_octal_digits}

pub digits_of_tree : six_octal_digits 0o40000 ≡ codes "040000"
unfolding digits
digits_of_tree = refl

pub digits_of_file : six_octal_digits 0o100644 ≡ codes "100644"
unfolding digits
digits_of_file = refl
