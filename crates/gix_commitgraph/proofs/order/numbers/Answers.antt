use Rattle.std.proofs.Common.{◌∙◌, arith, length-set}
use Rattle.gix_commitgraph.proofs.Packed.EntryOrder.{number_more, number_small}
use Rattle.gix_commitgraph.proofs.order.numbers.Goals as goal

pub loop-number-preserved : goal.loop-number-preserved
loop-number-preserved c = record {
  len = length-set c.loop-number.numbers.items _ c.loop-number.number ∙ c.loop-number.invariant.len;
  told = number_more c.args.order.now c.loop-number.numbers.items c.loop-number.number _ c.requires.places c.loop-number-test.true c.loop-number.invariant.len c.loop-number.invariant.told;
  small = number_small c.loop-number.numbers.items _ c.loop-number.number (omega arith) c.loop-number.invariant.small;
}
