use Rattle.gix_topo.proofs.Run.SomeList.{some_date}
use Rattle.gix_topo.proofs.laws.some_date_order.Goals as goal

pub returns : goal.returns
returns c = λ time objects walked all tips ends within named. some_date objects walked all tips ends (λ c i n. named c i (within c i n)) named within time
