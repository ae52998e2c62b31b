use Rattle.gix_output.proofs.Harmless.{quotes_what_steers}
use Rattle.gix_output.proofs.laws.quotes_what_steers.Goals as goal

pub returns : goal.returns
returns c = quotes_what_steers
