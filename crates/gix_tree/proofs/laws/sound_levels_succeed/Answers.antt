use Rattle.gix_tree.proofs.Theorems.Laws
use Rattle.gix_tree.proofs.laws.sound_levels_succeed.Goals as goal

pub returns : goal.returns
returns g c = Laws.sound_levels_succeed _ _ _
