use Rattle.gix_simple.proofs.Builders.{never_twice}
use Rattle.gix_simple.proofs.laws.never_twice.Goals as goal

pub returns : goal.returns
returns g c = never_twice g.F.Find.objects g.F.Find.faulty g.P.Predicate.answers
