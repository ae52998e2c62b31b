use Rattle.gix_topo.proofs.Run.EachGiven.{counts}
use Rattle.gix_topo.proofs.laws.counts.Goals as goal

pub returns : goal.returns
returns g c = counts g.F.Find.objects g.F.Find.faulty g.P.Predicate.answers
