use Rattle.gix_simple.proofs.MadeOfTips.{is_new_walk}
use Rattle.gix_simple.proofs.laws.is_made.Goals as goal

pub returns : goal.returns
returns g c = λ store predicate accepts tips walk by_test made. is_new_walk g.F.Find.objects g.F.Find.faulty g.P.Predicate.answers store predicate accepts tips walk by_test made
