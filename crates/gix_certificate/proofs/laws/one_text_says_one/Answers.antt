use Rattle.gix_certificate.proofs.Same.{says_the_same}
use Rattle.gix_certificate.proofs.laws.one_text_says_one.Goals as goal

pub returns : goal.returns
returns c = says_the_same
