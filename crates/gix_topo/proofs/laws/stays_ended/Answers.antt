use Rattle.gix_topo.proofs.Run.Ends.{ended_ready}
use Rattle.gix_topo.proofs.laws.stays_ended.Goals as goal

pub returns : goal.returns
returns g c = λ walk new next. ended_ready g.F.Find.objects g.F.Find.faulty g.P.Predicate.answers next
