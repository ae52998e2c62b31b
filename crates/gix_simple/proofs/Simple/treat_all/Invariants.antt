use Rattle.std.proofs.Common.{length}
use Rattle.gix_simple.proofs.Common.{in_rows, SimpleWalk, Treated, TreatsAll}
use Rattle.gix_simple.proofs.Simple.treat_all.Given as goal

-- to treat the ids that are left is to treat them all
abbrev pub invariant-loop-id : goal.invariant-loop-id
invariant-loop-id g l = record {
  treats : (how : Treated) (new : SimpleWalk g.row.F.Denot g.row.P.Denot) → TreatsAll g.F.Find.objects g.F.Find.faulty g.P.Predicate.answers (in_rows l.times) l.self l.ids how new
      → TreatsAll g.F.Find.objects g.F.Find.faulty g.P.Predicate.answers (in_rows l.times) l.fn.self l.fn.ids how new;
  asks : g.P.Predicate.can_accept l.self.predicate;
}

abbrev pub decreases-loop-id : goal.decreases-loop-id
decreases-loop-id g l = length l.ids
