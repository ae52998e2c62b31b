use Rattle.gix_simple.proofs.Difference.{difference}
use Rattle.gix_simple.proofs.laws.difference.Goals as goal

pub returns : goal.returns
returns g c = λ store predicate tips walk list accepting built uncut all agreeing whole unrefused drawn. difference g.F.Find.objects g.F.Find.faulty g.P.Predicate.answers store predicate tips accepting walk built uncut all agreeing whole list unrefused drawn
