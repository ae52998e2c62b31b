use Rattle.gix_tree.proofs.Work.Measure
use Rattle.gix_tree.proofs.laws.work_lessens.Goals as goal

pub returns : goal.returns
returns g c = Measure.work_lessens _
