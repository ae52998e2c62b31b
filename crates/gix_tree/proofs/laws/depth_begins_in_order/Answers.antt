use Rattle.gix_tree.proofs.Theorems.Laws
use Rattle.gix_tree.proofs.laws.depth_begins_in_order.Goals as goal

pub returns : goal.returns
returns g c = Laws.depth_begins_in_order _ _ _
