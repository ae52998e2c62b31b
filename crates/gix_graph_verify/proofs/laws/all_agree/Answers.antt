use Rattle.gix_graph_verify.proofs.Reports.{all-agree}
use Rattle.gix_graph_verify.proofs.laws.all_agree.Goals as goal

pub returns : goal.returns
returns c = all-agree
