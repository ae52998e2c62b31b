use Rattle.gix_simple.proofs.Faultless.{text_beginning}
use Rattle.gix_simple.proofs.laws.faultless_begins.Goals as goal

pub returns : goal.returns
returns g c = λ walk left accepts list by_test fresh open_to agreeing commits drawn. text_beginning g.F.Find.objects g.F.Find.faulty g.P.Predicate.answers walk accepts by_test fresh open_to agreeing list left commits drawn
