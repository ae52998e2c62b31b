use Rattle.gix_tree.proofs.Theorems.Laws
use Rattle.gix_tree.proofs.laws.levels_in_order.Goals as goal

pub returns : goal.returns
returns g c = Laws.levels_are_in_order _ _ _
