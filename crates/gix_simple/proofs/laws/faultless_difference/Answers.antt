use Rattle.gix_simple.proofs.Difference.{faultless_difference}
use Rattle.gix_simple.proofs.laws.faultless_difference.Goals as goal

pub returns : goal.returns
returns g c = λ store predicate tips walk list accepting built uncut all agreeing behind good drawn. faultless_difference g.F.Find.objects g.F.Find.faulty g.P.Predicate.answers store predicate tips accepting walk built uncut all agreeing behind list good drawn
