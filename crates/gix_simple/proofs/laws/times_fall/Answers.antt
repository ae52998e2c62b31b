use Rattle.gix_simple.proofs.Corollaries.{rising}
use Rattle.gix_simple.proofs.laws.times_fall.Goals as goal

pub returns : goal.returns
returns g c = λ walk accepts hides list e older gives. rising g.F.Find.objects g.F.Find.faulty g.P.Predicate.answers walk accepts hides list e older gives
