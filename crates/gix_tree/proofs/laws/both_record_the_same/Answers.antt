use Rattle.gix_tree.proofs.Theorems.Laws
use Rattle.gix_tree.proofs.laws.both_record_the_same.Goals as goal

pub returns : goal.returns
returns g c = Laws.both_record_the_same _ _
