use Rattle.gix_tree.proofs.Theorems.Laws
use Rattle.gix_tree.proofs.laws.levels_recorded.Goals as goal

pub returns : goal.returns
returns g c = Laws.levels_are_recorded _ _
