use Rattle.gix_simple.proofs.Corollaries.{gives}
use Rattle.gix_simple.proofs.laws.in_order.Goals as goal

pub returns : goal.returns
returns g c = λ walk accepts hides list run. gives g.F.Find.objects g.F.Find.faulty g.P.Predicate.answers walk accepts hides list run
