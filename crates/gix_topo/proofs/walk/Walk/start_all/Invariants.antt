use Rattle.std.proofs.Common.{◌≡◌, List, drop}
use Rattle.gix_topo.proofs.Common.{Error, Walk, plan_of, StartsAll, IsStartFault, Ready}
use Rattle.gix_topo.proofs.walk.Walk.start_all.Given as goal

-- to start the tips that are left is to start them all
abbrev pub invariant-loop-index : goal.invariant-loop-index
invariant-loop-index g l = record {
  starts : (new : Walk g.row.F.Denot) (others : List Ready) → StartsAll g.F.Find.objects g.F.Find.faulty l.self (drop l.index l.fn.self.tips.items) others new → (added : List Ready) × StartsAll g.F.Find.objects g.F.Find.faulty l.fn.self l.fn.self.tips.items added new;
  fault : (e : Error) → IsStartFault g.F.Find.objects g.F.Find.faulty l.self (drop l.index l.fn.self.tips.items) e → IsStartFault g.F.Find.objects g.F.Find.faulty l.fn.self l.fn.self.tips.items e;
  same : plan_of l.self ≡ plan_of l.fn.self;
}
