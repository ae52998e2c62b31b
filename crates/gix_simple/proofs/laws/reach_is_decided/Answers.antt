use Rattle.gix_simple.proofs.ReachDecided.{reach_test}
use Rattle.gix_simple.proofs.laws.reach_is_decided.Goals as goal

pub returns : goal.returns
returns c = reach_test
