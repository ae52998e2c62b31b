use Rattle.gix_simple.proofs.Corollaries.{begins}
use Rattle.gix_simple.proofs.laws.begins_in_order.Goals as goal

pub returns : goal.returns
returns g c = λ walk left accepts hides list run. begins g.F.Find.objects g.F.Find.faulty g.P.Predicate.answers walk accepts hides list left run
