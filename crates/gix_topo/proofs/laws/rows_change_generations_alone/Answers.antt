use Rattle.gix_topo.proofs.Run.Corollaries.{differ_in_generations}
use Rattle.gix_topo.proofs.laws.rows_change_generations_alone.Goals as goal

pub returns : goal.returns
returns g c = differ_in_generations g.F.Find.objects g.F.Find.faulty g.P.Predicate.answers
