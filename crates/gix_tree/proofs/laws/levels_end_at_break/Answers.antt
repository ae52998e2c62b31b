use Rattle.gix_tree.proofs.Theorems.Laws
use Rattle.gix_tree.proofs.laws.levels_end_at_break.Goals as goal

pub returns : goal.returns
returns g c = Laws.levels_end_at_break _ _ _
