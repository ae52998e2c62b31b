use Rattle.gix_topo.proofs.Run.Corollaries.{once}
use Rattle.gix_topo.proofs.laws.each_once.Goals as goal

pub returns : goal.returns
returns g c = λ plan ids h. once g.F.Find.objects plan ids h
