use Rattle.gix_simple.proofs.TreatsId.{yes_before, asked_now}
use Rattle.gix_simple.proofs.Simple.ask.Goals as goal

pub returns-then-remove-clause-asks : goal.returns-then-remove-clause-asks
returns-then-remove-clause-asks g c = yes_before g.F.Find.objects g.F.Find.faulty g.P.Predicate.answers c.args.id.now _ _ c.self.view_is _ c.remove.ensures.removed c.if-remove.true

pub returns-else-remove-clause-asks : goal.returns-else-remove-clause-asks
returns-else-remove-clause-asks g c = asked_now g.F.Find.objects g.F.Find.faulty g.P.Predicate.answers c.args.id.now _ _ c.self.view_is _ _ _ c.remove.ensures.removed c.if-remove.false c.accepts.ensures.answer
