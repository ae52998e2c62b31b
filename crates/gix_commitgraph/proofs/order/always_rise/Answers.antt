use Rattle.std.proofs.Common.{sym, ◌∙◌, arith}
use Rattle.gix_commitgraph.proofs.Packed.EntryOrder.{stops}
use Rattle.gix_commitgraph.proofs.order.always_rise.Goals as goal

pub returns-then-not-is_less : goal.returns-then-not-is_less
returns-then-not-is_less c = stops c.args.order.now c.loop-i.i _ (omega arith) (omega arith) (sym c.is_less.ensures ∙ c.if-not-is_less.true)
