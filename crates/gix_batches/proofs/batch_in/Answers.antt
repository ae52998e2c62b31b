use Rattle.std.proofs.Common.{refl}
use Rattle.gix_batches.specs.Batches.{gives_none}
use Rattle.gix_batches.proofs.batch_in.Goals as goal

-- a fault before the first step
pub returns-in-Err-clause-whole : goal.returns-in-Err-clause-whole
returns-in-Err-clause-whole c = gives_none c.in-Err.fault refl c.in-Err.ensures.commits_stay c.in-Err.ensures.parents_stay
