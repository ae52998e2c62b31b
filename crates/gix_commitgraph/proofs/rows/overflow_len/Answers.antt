use Rattle.std.proofs.Common.{sym, arith}
use Rattle.gix_commitgraph.proofs.Packed.HandedRows.{length-overflow_of}
use Rattle.gix_commitgraph.proofs.rows.overflow_len.Goals as goal

pub returns-in_default : goal.returns-in_default
returns-in_default c = sym (length-overflow_of c.args.parents.now (omega arith))
