use Rattle.gix_simple.proofs.Alike.{differ_in_generations}
use Rattle.gix_simple.proofs.laws.rows_change_generations_alone.Goals as goal

pub returns : goal.returns
returns g c =
    λ walk other accepts hidden list there alike run run_there.
    differ_in_generations g.F.Find.objects g.F.Find.faulty g.P.Predicate.answers walk other accepts alike hidden list there run run_there
