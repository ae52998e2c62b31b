use Rattle.gix_topo.proofs.Run.Theorem.{begins}
use Rattle.gix_topo.proofs.laws.begins_in_order.Goals as goal

pub returns : goal.returns
returns g c = λ walk new accepts list by started sound unrefused drawn. begins g.F.Find.objects g.F.Find.faulty g.P.Predicate.answers accepts walk new list by started sound unrefused drawn
