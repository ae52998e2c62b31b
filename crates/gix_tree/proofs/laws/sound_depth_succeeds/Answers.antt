use Rattle.gix_tree.proofs.Theorems.Laws
use Rattle.gix_tree.proofs.laws.sound_depth_succeeds.Goals as goal

pub returns : goal.returns
returns g c = Laws.sound_depth_succeeds _ _ _
