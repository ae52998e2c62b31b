use Rattle.gix_topo.proofs.Run.Corollaries.{before_parents}
use Rattle.gix_topo.proofs.laws.children_first.Goals as goal

pub returns : goal.returns
returns g c = λ plan ids h. before_parents g.F.Find.objects plan ids h
