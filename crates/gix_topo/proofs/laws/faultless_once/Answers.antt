use Rattle.gix_topo.proofs.Run.Corollaries.{each_by_text}
use Rattle.gix_topo.proofs.laws.faultless_once.Goals as goal

pub returns : goal.returns
returns g c = λ plan ids taken. each_by_text g.F.Find.objects plan ids taken
