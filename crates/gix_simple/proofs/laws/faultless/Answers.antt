use Rattle.gix_simple.proofs.Faultless.{faultless}
use Rattle.gix_simple.proofs.laws.faultless.Goals as goal

pub returns : goal.returns
returns g c = λ walk accepts list run. faultless g.F.Find.objects g.F.Find.faulty g.P.Predicate.answers walk accepts list run
