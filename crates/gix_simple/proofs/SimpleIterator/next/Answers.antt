use Rattle.std.proofs.Common.{sym, ap, ◌∙◌}
use Rattle.gix_simple.proofs.Common.{initial, later}
use Rattle.gix_simple.proofs.FirstStep.{progresses}
use Rattle.gix_simple.proofs.SimpleIterator.next.Goals as goal

pub returns-then-self-clause-steps : goal.returns-then-self-clause-steps
returns-then-self-clause-steps g c = later (ap (λ w. w.begun) (sym c.self.view_is) ∙ c.if-self.true) c.step.ensures.steps

pub returns-then-self-clause-goes : goal.returns-then-self-clause-goes
returns-then-self-clause-goes g c = progresses g.F.Find.objects g.F.Find.faulty g.P.Predicate.answers c.args.self.now (λ walk. g.P.Predicate.can_accept walk.predicate) _ _ (returns-then-self-clause-steps g c) c.step.ensures.asks

pub returns-clause-steps : goal.returns-clause-steps
returns-clause-steps g c = initial (ap (λ w. w.begun) (sym c.self.view_is) ∙ c.if-self.false) c.first_step.ensures.steps

pub returns-clause-goes : goal.returns-clause-goes
returns-clause-goes g c = progresses g.F.Find.objects g.F.Find.faulty g.P.Predicate.answers c.args.self.now (λ walk. g.P.Predicate.can_accept walk.predicate) _ _ (returns-clause-steps g c) c.first_step.ensures.asks
