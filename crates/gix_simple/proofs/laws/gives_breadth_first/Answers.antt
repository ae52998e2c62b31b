use Rattle.gix_simple.proofs.FromTips.{made_run}
use Rattle.gix_simple.proofs.laws.gives_breadth_first.Goals as goal

pub returns : goal.returns
returns g c = λ store predicate accepts tips walk list. made_run g.F.Find.objects g.F.Find.faulty g.P.Predicate.answers accepts list store predicate tips walk
