use Rattle.gix_simple.proofs.Common.{IsMade}
use Rattle.gix_simple.proofs.Simple.filtered.Given as goal

-- the tips that have come are treated
abbrev pub invariant-loop-tip : goal.invariant-loop-tip
invariant-loop-tip g l = record {
  made : IsMade g.F.Find.objects g.F.Find.faulty g.P.Predicate.answers l.fn.find l.fn.predicate l.yielded l.walk;
  asks : g.P.Predicate.can_accept l.walk.predicate;
}
