use Rattle.gix_topo.proofs.Run.Corollaries.{text_difference}
use Rattle.gix_topo.proofs.laws.faultless_difference.Goals as goal

pub returns : goal.returns
returns g c = λ walk list accepting started all agrees faultless drawn. text_difference g.F.Find.objects g.F.Find.faulty g.P.Predicate.answers walk list accepting started all agrees faultless drawn
