use Rattle.gix_commitgraph.proofs.Packed.Whole.{packed_again}
use Rattle.gix_commitgraph.proofs.laws.spellings_are_read.Goals as goal

pub returns : goal.returns
returns c = packed_again
