use Rattle.gix_simple.proofs.Builders.{built}
use Rattle.gix_simple.proofs.laws.is_built.Goals as goal

pub returns : goal.returns
returns g c = λ store predicate accepts tips walk by_test b. built g.F.Find.objects g.F.Find.faulty g.P.Predicate.answers accepts store predicate by_test tips walk b
