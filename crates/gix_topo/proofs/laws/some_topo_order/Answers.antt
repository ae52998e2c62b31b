use Rattle.gix_topo.proofs.Run.SomeList.{some_topo}
use Rattle.gix_topo.proofs.laws.some_topo_order.Goals as goal

pub returns : goal.returns
returns c = λ time objects walked all tips ends named all_named. some_topo objects walked all tips ends named all_named time
