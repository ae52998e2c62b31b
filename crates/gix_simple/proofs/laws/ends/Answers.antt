use Rattle.gix_simple.proofs.Ends.{drawn_left}
use Rattle.gix_simple.proofs.laws.ends.Goals as goal

pub returns : goal.returns
returns g c = λ walk new list drawn. drawn_left g.F.Find.objects g.F.Find.faulty g.P.Predicate.answers list walk new drawn
