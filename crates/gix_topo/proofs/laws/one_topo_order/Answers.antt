use Rattle.gix_topo.specs.declared.Sorting.TheVariants as order
use Rattle.gix_topo.specs.WalkSet.{IsInWalk}
use Rattle.gix_revwalk.proofs.Beginnings.{one_list}
use Rattle.gix_topo.proofs.Run.ReadyInTurn.{one_taken}
use Rattle.gix_topo.proofs.laws.one_topo_order.Goals as goal

pub returns : goal.returns
returns c = λ time walked all tips ends. one_list _ (one_taken time walked (IsInWalk walked all tips ends) tips order.TopoOrder)
