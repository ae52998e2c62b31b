use Rattle.std.specs.Prelude.{None, pos}
use Rattle.gix_simple.proofs.ReachDecided.{some_order}
use Rattle.gix_simple.proofs.laws.some_breadth_order.Goals as goal

pub returns : goal.returns
returns c = some_order None (λ i. pos 0)
