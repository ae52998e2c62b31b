use Rattle.std.specs.Prelude.{Some}
use Rattle.gix_revwalk.proofs.Beginnings.{one_list}
use Rattle.gix_revwalk.proofs.OneOrder.{one_next}
use Rattle.gix_simple.proofs.laws.one_time_order.Goals as goal

pub returns : goal.returns
returns c = λ order time next starts. one_list _ (one_next (Some order) time next starts)
