use Rattle.gix_simple.proofs.Alike.{gives_unhidden}
use Rattle.gix_simple.proofs.laws.hides.Goals as goal

pub returns : goal.returns
returns g c = λ walk other accepts hidden shown list longer alike tipless run all. gives_unhidden g.F.Find.objects g.F.Find.faulty g.P.Predicate.answers walk other accepts alike tipless hidden shown list longer run all
