-- What the format of a subject says.
use Rattle.std.proofs.Common.{◌≡◌, true, codes, refl}
use Rattle.gix_statement.specs.WholeStatement.{says_more}
use Rattle.gix_words.specs.Formats.{format_bytes, packed}

pub subject_said : says_more (format_bytes (packed (codes " %s"))) ≡ true
unfolding packed
subject_said = refl
