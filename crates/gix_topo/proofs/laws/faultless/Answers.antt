use Rattle.gix_topo.proofs.Run.Theorem.{gives_text}
use Rattle.gix_topo.proofs.laws.faultless.Goals as goal

pub returns : goal.returns
returns g c = λ walk accepts list by started agrees faultless drawn. gives_text g.F.Find.objects g.F.Find.faulty g.P.Predicate.answers accepts walk list by started agrees faultless drawn
