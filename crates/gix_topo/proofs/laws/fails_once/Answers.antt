use Rattle.gix_topo.proofs.Run.Ends.{fails}
use Rattle.gix_topo.proofs.laws.fails_once.Goals as goal

pub returns : goal.returns
returns g c = λ walk new e next. fails g.F.Find.objects g.F.Find.faulty g.P.Predicate.answers e next
