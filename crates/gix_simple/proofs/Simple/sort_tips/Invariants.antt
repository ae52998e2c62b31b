use Rattle.std.proofs.Common.{◌≡◌, length}
use Rattle.gix_simple.proofs.Common.{Error, SimpleWalk, FailsAtTip, SortsAll}
use Rattle.gix_simple.proofs.Simple.sort_tips.Given as goal

-- to sort the tips that are left is to sort them all, and a fault among them is one of all
abbrev pub invariant-loop-tip : goal.invariant-loop-tip
invariant-loop-tip g l = record {
  sorts : (new : SimpleWalk g.row.F.Denot g.row.P.Denot) → SortsAll g.F.Find.objects g.F.Find.faulty l.limit l.self l.tips.items new → SortsAll g.F.Find.objects g.F.Find.faulty l.limit l.fn.self l.fn.tips.items new;
  fails : (e : Error) → FailsAtTip (g.F.Find.objects l.fn.self.store) (g.F.Find.faulty l.fn.self.store) l.tips.items e → FailsAtTip (g.F.Find.objects l.fn.self.store) (g.F.Find.faulty l.fn.self.store) l.fn.tips.items e;
  store : l.self.store ≡ l.fn.self.store;
}

abbrev pub decreases-loop-tip : goal.decreases-loop-tip
decreases-loop-tip g l = length l.tips.items
