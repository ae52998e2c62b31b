use Rattle.std.proofs.Common.{ap, option_map}
use Rattle.std.proofs.lemmas.Result.{IfOk-weaker}
use Rattle.gix_contained.specs.Inside.Search.{brought, looked_up}
use Rattle.gix_contained.proofs.waiting.Waiting.parents.Goals as goal

pub returns-in-Some-clause-parents : goal.returns-in-Some-clause-parents
returns-in-Some-clause-parents g c = brought (ap (option_map (λ ids. ids.items)) c.in-Some.is)

pub returns-in-None-clause-parents : goal.returns-in-None-clause-parents
returns-in-None-clause-parents g c = IfOk-weaker c.parents.result _ _ (λ named read. looked_up read) c.parents.ensures.parents
