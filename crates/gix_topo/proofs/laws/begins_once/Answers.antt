use Rattle.gix_topo.proofs.Run.Corollaries.{first_once}
use Rattle.gix_topo.proofs.laws.begins_once.Goals as goal

pub returns : goal.returns
returns g c = λ plan ids h. first_once g.F.Find.objects plan ids h
