use Rattle.gix_simple.proofs.Generations.{tells_generations}
use Rattle.gix_simple.proofs.laws.tells.Goals as goal

pub returns : goal.returns
returns g c = λ walk new list drawn. tells_generations g.F.Find.objects g.F.Find.faulty g.P.Predicate.answers list walk new drawn
