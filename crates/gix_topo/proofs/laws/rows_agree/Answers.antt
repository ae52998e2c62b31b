use Rattle.gix_topo.proofs.Run.Corollaries.{with_rows}
use Rattle.gix_topo.proofs.laws.rows_agree.Goals as goal

pub returns : goal.returns
returns g c = with_rows g.F.Find.objects g.F.Find.faulty g.P.Predicate.answers
