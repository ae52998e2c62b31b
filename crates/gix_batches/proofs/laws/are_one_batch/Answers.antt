use Rattle.gix_batches.proofs.laws.are_one_batch.Goals as goal
use Rattle.gix_batches.proofs.OneBatch as one

pub returns : goal.returns
returns c = one.are_one_batch
