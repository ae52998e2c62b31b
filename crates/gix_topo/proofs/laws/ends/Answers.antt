use Rattle.gix_topo.proofs.Run.Ends.{drawn_left}
use Rattle.gix_topo.proofs.laws.ends.Goals as goal

pub returns : goal.returns
returns g c = λ walk new list drawn. drawn_left g.F.Find.objects g.F.Find.faulty g.P.Predicate.answers list walk new drawn
