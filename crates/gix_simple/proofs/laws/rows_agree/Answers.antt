use Rattle.gix_simple.proofs.Alike.{give_the_same}
use Rattle.gix_simple.proofs.laws.rows_agree.Goals as goal

pub returns : goal.returns
returns g c = λ walk other accepts hidden list there alike run run_there. give_the_same g.F.Find.objects g.F.Find.faulty g.P.Predicate.answers walk other accepts alike hidden list there run run_there
