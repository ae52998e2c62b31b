use Rattle.gix_simple.proofs.AsksOnce.{asks_once}
use Rattle.gix_simple.proofs.laws.asks_once.Goals as goal

pub returns : goal.returns
returns g c = asks_once g.F.Find.objects g.F.Find.faulty g.P.Predicate.answers
