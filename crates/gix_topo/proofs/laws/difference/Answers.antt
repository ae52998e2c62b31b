use Rattle.gix_topo.proofs.Run.Corollaries.{difference}
use Rattle.gix_topo.proofs.laws.difference.Goals as goal

pub returns : goal.returns
returns g c = λ walk list accepting started all agreeing whole unrefused drawn. difference g.F.Find.objects g.F.Find.faulty g.P.Predicate.answers walk list accepting started all agreeing whole unrefused drawn
