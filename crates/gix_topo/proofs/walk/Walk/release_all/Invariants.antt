use Rattle.std.proofs.Common.{◌≡◌, List, length}
use Rattle.gix_topo.proofs.Common.{Error, Walk, plan_of, ReleasesAll, IsFaultAmong, Ready}
use Rattle.gix_topo.proofs.walk.Walk.release_all.Given as goal

-- to release the parents that are left is to release them all
abbrev pub invariant-loop-id : goal.invariant-loop-id
invariant-loop-id g l = record {
  releases : (new : Walk g.row.F.Denot) (others : List Ready) → ReleasesAll g.F.Find.objects g.F.Find.faulty l.self l.ids others new → (added : List Ready) × ReleasesAll g.F.Find.objects g.F.Find.faulty l.fn.self l.fn.ids added new;
  fault : (e : Error) → IsFaultAmong g.F.Find.objects g.F.Find.faulty l.self l.ids e → IsFaultAmong g.F.Find.objects g.F.Find.faulty l.fn.self l.fn.ids e;
  same : plan_of l.self ≡ plan_of l.fn.self;
}

abbrev pub decreases-loop-id : goal.decreases-loop-id
decreases-loop-id g l = length l.ids
