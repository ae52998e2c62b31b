use Rattle.gix_tree.proofs.Theorems.Laws
use Rattle.gix_tree.proofs.laws.depth_in_order.Goals as goal

pub returns : goal.returns
returns g c = Laws.depth_is_in_order _ _ _
