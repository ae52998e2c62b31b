use Rattle.gix_simple.proofs.Corollaries.{begins_once}
use Rattle.gix_simple.proofs.laws.begins_once.Goals as goal

pub returns : goal.returns
returns g c = λ walk accepts hides list gives. begins_once g.F.Find.objects g.F.Find.faulty g.P.Predicate.answers walk accepts hides list gives
