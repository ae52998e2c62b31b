use Rattle.std.proofs.Common.{◌≡◌, ◌⊎◌, [], Option, Result}
use Rattle.gix_topo.proofs.Common.{Info, Error, walk_of, answers_left, IsOpen, TopoWalk, Next}
use Rattle.gix_topo.proofs.TopoIterator.next.Given as goal

-- what comes of the walk now comes of it as it was
abbrev pub invariant-loop-info : goal.invariant-loop-info
invariant-loop-info g l = record {
  steps : (answer : Option (Result Info Error)) (new : TopoWalk g.row.F.Denot g.row.P.Denot) → Next g.F.Find.objects g.F.Find.faulty g.P.Predicate.answers (walk_of l.self-inside.walk l.self-inside.predicate) answer new → Next g.F.Find.objects g.F.Find.faulty g.P.Predicate.answers l.fn.self answer new;
  asks : g.P.Predicate.can_accept l.self-inside.predicate ⊎ (l.self-inside.walk.ready.commits ≡ []);
  may : IsOpen g.F.Find.objects g.F.Find.faulty l.self-inside.walk;
}

abbrev pub decreases-loop-info : goal.decreases-loop-info
decreases-loop-info g l = answers_left g.F.Find.objects (walk_of l.self-inside.walk l.self-inside.predicate)
