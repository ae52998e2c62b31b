use Rattle.gix_simple.proofs.Corollaries.{breadth}
use Rattle.gix_simple.proofs.laws.breadth_order.Goals as goal

pub returns : goal.returns
returns g c = λ walk accepts list e run. breadth g.F.Find.objects g.F.Find.faulty g.P.Predicate.answers walk accepts list e run
