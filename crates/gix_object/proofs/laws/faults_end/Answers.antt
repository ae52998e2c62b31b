use Rattle.gix_object.proofs.Commits.Items.{faults_end}
use Rattle.gix_object.proofs.laws.faults_end.Goals as goal

pub returns : goal.returns
returns c = faults_end
