use Rattle.gix_tree.proofs.Theorems.Laws
use Rattle.gix_tree.proofs.laws.ok_without_break.Goals as goal

pub returns : goal.returns
returns g c = Laws.levels_ok_without_break _ _ _
