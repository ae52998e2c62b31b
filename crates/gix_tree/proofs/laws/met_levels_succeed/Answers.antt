use Rattle.gix_tree.proofs.Theorems.Laws
use Rattle.gix_tree.proofs.laws.met_levels_succeed.Goals as goal

pub returns : goal.returns
returns g c = Laws.met_levels_succeed _ _ _
