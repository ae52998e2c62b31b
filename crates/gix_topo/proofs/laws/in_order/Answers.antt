use Rattle.gix_topo.proofs.Run.Theorem.{gives}
use Rattle.gix_topo.proofs.laws.in_order.Goals as goal

pub returns : goal.returns
returns g c = λ walk accepts list run. gives g.F.Find.objects g.F.Find.faulty g.P.Predicate.answers accepts walk list run
