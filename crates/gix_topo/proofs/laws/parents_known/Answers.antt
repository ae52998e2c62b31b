use Rattle.gix_topo.proofs.Run.EachGiven.{parents_known}
use Rattle.gix_topo.proofs.laws.parents_known.Goals as goal

pub returns : goal.returns
returns g c = parents_known g.F.Find.objects g.F.Find.faulty g.P.Predicate.answers
