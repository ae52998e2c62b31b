use Rattle.gix_simple.proofs.Corollaries.{gives_once}
use Rattle.gix_simple.proofs.laws.each_once.Goals as goal

pub returns : goal.returns
returns g c = λ walk accepts hides list gives. gives_once g.F.Find.objects g.F.Find.faulty g.P.Predicate.answers walk accepts hides list gives
