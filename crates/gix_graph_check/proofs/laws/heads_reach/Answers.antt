use Rattle.gix_graph_check.proofs.HeadRows.{heads-reach}
use Rattle.gix_graph_check.proofs.laws.heads_reach.Goals as goal

pub returns : goal.returns
returns c = heads-reach
