use Rattle.std.proofs.Common.{refl}
use Rattle.gix_batches.specs.Batches.{gives_none}
use Rattle.gix_batches.proofs.Promised.{gives_more}
use Rattle.gix_batches.proofs.batch_named.Goals as goal

-- a fault before the first step
pub returns-in-Err-clause-whole : goal.returns-in-Err-clause-whole
returns-in-Err-clause-whole c = λ words asked. gives_none c.in-Err.fault refl c.in-Err.ensures.commits_stay c.in-Err.ensures.parents_stay

pub returns-in-Err-clause-named : goal.returns-in-Err-clause-named
returns-in-Err-clause-named c = λ words asked. gives_none c.in-Err.fault refl c.in-Err.ensures.commits_stay c.in-Err.ensures.parents_stay

pub returns-in-Ok-clause-named : goal.returns-in-Ok-clause-named
returns-in-Ok-clause-named c = λ words asked. gives_more (λ objects given. given.0) words _ _ _ _ _ _ (c.in-Ok.ensures.whole words asked)
