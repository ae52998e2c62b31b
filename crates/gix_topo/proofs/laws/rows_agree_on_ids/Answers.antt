use Rattle.gix_topo.proofs.Run.Corollaries.{same_ids}
use Rattle.gix_topo.proofs.laws.rows_agree_on_ids.Goals as goal

pub returns : goal.returns
returns g c = λ walk other rows sorting accepts list longer same run run_other. same_ids g.F.Find.objects g.F.Find.faulty g.P.Predicate.answers walk other rows sorting accepts list longer same run run_other
