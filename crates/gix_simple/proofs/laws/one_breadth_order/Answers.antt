use Rattle.std.specs.Prelude.{None, pos}
use Rattle.gix_revwalk.proofs.Beginnings.{one_list}
use Rattle.gix_revwalk.proofs.OneOrder.{one_next}
use Rattle.gix_simple.proofs.laws.one_breadth_order.Goals as goal

pub returns : goal.returns
returns c = λ next starts. one_list _ (one_next None (λ i. pos 0) next starts)
