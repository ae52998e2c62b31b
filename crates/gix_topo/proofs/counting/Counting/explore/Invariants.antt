use Rattle.gix_topo.proofs.Common.{IsSamePlan, Explores}
use Rattle.gix_topo.proofs.Counts.ExploreEnds.{names_of}
use Rattle.gix_topo.proofs.Counts.Frontier.{to_do}
use Rattle.gix_topo.proofs.counting.Counting.explore.Given as goal

-- what was explored before this step
abbrev pub invariant-loop-self : goal.invariant-loop-self
invariant-loop-self g l = record {
  same : IsSamePlan g.F.Find.objects g.F.Find.faulty l.fn.self l.self;
  explores : Explores g.F.Find.objects g.F.Find.faulty l.fn.self l.self;
}

abbrev pub decreases-loop-self : goal.decreases-loop-self
decreases-loop-self g l = to_do (names_of g.F.Find.objects g.F.Find.faulty l.self) l.self.frontier
