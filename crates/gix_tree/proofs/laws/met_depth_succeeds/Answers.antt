use Rattle.gix_tree.proofs.Theorems.Laws
use Rattle.gix_tree.proofs.laws.met_depth_succeeds.Goals as goal

pub returns : goal.returns
returns g c = Laws.met_depth_succeeds _ _ _
