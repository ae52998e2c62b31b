use Rattle.gix_topo.proofs.Run.Ends.{asks_once}
use Rattle.gix_topo.proofs.laws.asks_once.Goals as goal

pub returns : goal.returns
returns g c = λ walk new list h d. asks_once g.F.Find.objects g.F.Find.faulty g.P.Predicate.answers list walk new h d
