use Rattle.gix_commitgraph.proofs.Packed.Whole.{packed_once}
use Rattle.gix_commitgraph.proofs.laws.spellings_differ.Goals as goal

pub returns : goal.returns
returns c = packed_once
