use Rattle.gix_topo.specs.declared.Sorting.TheVariants as order
use Rattle.gix_topo.specs.WalkSet.{IsInWalk}
use Rattle.gix_revwalk.proofs.Beginnings.{one_beginning}
use Rattle.gix_topo.proofs.Run.ReadyInTurn.{one_taken}
use Rattle.gix_topo.proofs.laws.one_date_beginning.Goals as goal

pub returns : goal.returns
returns c = λ time walked all tips ends. one_beginning _ (one_taken time walked (IsInWalk walked all tips ends) tips order.DateOrder)
