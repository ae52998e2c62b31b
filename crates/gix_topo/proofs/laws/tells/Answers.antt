use Rattle.gix_topo.proofs.Run.EachGiven.{tells}
use Rattle.gix_topo.proofs.laws.tells.Goals as goal

pub returns : goal.returns
returns g c = tells g.F.Find.objects g.F.Find.faulty g.P.Predicate.answers
