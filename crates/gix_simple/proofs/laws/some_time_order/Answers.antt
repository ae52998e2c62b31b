use Rattle.std.specs.Prelude.{Some}
use Rattle.gix_simple.proofs.ReachDecided.{some_order}
use Rattle.gix_simple.proofs.laws.some_time_order.Goals as goal

pub returns : goal.returns
returns c = λ order. some_order (Some order)
