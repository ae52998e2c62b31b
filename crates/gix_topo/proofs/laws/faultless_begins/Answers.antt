use Rattle.gix_topo.proofs.Run.Theorem.{begins_text}
use Rattle.gix_topo.proofs.laws.faultless_begins.Goals as goal

pub returns : goal.returns
returns g c = λ walk new accepts list by started agrees faultless drawn. begins_text g.F.Find.objects g.F.Find.faulty g.P.Predicate.answers accepts walk new list by started agrees faultless drawn
