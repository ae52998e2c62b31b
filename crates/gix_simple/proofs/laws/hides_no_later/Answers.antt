use Rattle.gix_simple.proofs.LateTips.{hides_no_later}
use Rattle.gix_simple.proofs.laws.hides_no_later.Goals as goal

pub returns : goal.returns
returns g c = hides_no_later g.F.Find.objects g.F.Find.faulty g.P.Predicate.answers
