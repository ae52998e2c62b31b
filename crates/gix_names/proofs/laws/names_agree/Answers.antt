use Rattle.gix_names.proofs.Agree.{agree}
use Rattle.gix_names.proofs.laws.names_agree.Goals as goal

pub returns : goal.returns
returns c = agree
