use Rattle.gix_tree.proofs.Theorems.Laws
use Rattle.gix_tree.proofs.laws.levels_begin_in_order.Goals as goal

pub returns : goal.returns
returns g c = Laws.levels_begin_in_order _ _ _
