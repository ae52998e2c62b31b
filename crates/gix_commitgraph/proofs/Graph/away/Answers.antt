use Rattle.std.proofs.Common.{arith}
use Rattle.gix_commitgraph.proofs.Common.{kind_of_rows}
use Rattle.gix_commitgraph.proofs.Packed.Fields.{row_len-is}
use Rattle.gix_commitgraph.proofs.Graph.away.Goals as goal

pub word_at-requires : goal.word_at-requires
word_at-requires c = omega (arith, row_len-is (kind_of_rows c.args.self.now), c.row.ensures.long)
