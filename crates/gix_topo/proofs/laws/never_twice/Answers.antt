use Rattle.gix_topo.proofs.Run.Ends.{never_twice}
use Rattle.gix_topo.proofs.laws.never_twice.Goals as goal

pub returns : goal.returns
returns g c = λ walk new list h d. never_twice g.F.Find.objects g.F.Find.faulty g.P.Predicate.answers list walk new h d
