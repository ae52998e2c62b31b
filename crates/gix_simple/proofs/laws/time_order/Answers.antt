use Rattle.gix_simple.proofs.Corollaries.{by_time}
use Rattle.gix_simple.proofs.laws.time_order.Goals as goal

pub returns : goal.returns
returns g c = λ walk accepts order list e run. by_time g.F.Find.objects g.F.Find.faulty g.P.Predicate.answers walk accepts order list e run
