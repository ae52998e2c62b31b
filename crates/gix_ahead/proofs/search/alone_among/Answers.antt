use Rattle.std.proofs.Common.{arith}
use Rattle.gix_ahead.specs.Inside.Search.{One, Other, is_alone}
use Rattle.gix_ahead.proofs.Counting.{kept_fewer}
use Rattle.gix_ahead.proofs.search.alone_among.Goals as goal

pub overflow_add-ahead : goal.overflow_add-ahead
overflow_add-ahead c = let few = kept_fewer (is_alone c.args.marks.now One Other) c.args.ids.now c.loop-id.id-index (omega (arith, c.loop-id-test.true)) in omega (arith, few, c.loop-id.invariant.ahead)

pub overflow_add-behind : goal.overflow_add-behind
overflow_add-behind c = let few = kept_fewer (is_alone c.args.marks.now Other One) c.args.ids.now c.loop-id.id-index (omega (arith, c.loop-id-test.true)) in omega (arith, few, c.loop-id.invariant.behind)
