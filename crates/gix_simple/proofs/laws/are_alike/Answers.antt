use Rattle.gix_simple.proofs.Alike.{are_alike}
use Rattle.gix_simple.proofs.laws.are_alike.Goals as goal

pub returns : goal.returns
returns g c = λ store predicate accepts tips walk other by_test built. are_alike g.F.Find.objects g.F.Find.faulty g.P.Predicate.answers store predicate accepts tips by_test built
