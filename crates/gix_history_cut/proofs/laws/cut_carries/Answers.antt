use Rattle.gix_history_cut.proofs.laws.cut_carries.Goals as goal
use Rattle.gix_history_cut.proofs.CutCarried as carried

pub returns : goal.returns
returns c = carried.cut_carries
