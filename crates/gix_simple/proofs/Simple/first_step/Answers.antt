use Rattle.std.proofs.Common.{true, Some, Err, subst}
use Rattle.gix_simple.proofs.Common.{FirstStep}
use Rattle.gix_simple.proofs.FirstStep.{next_of_hidden, next_of_fault}
use Rattle.gix_simple.proofs.Simple.first_step.Goals as goal

pub returns-in-Err-clause-steps : goal.returns-in-Err-clause-steps
returns-in-Err-clause-steps g c =
    subst (λ w. FirstStep g.F.Find.objects g.F.Find.faulty g.P.Predicate.answers w (Some (Err c.in-Err.error)) c.hide_painted.new.self) (λ j. record (c.self.view_is j) { begun = true })
    (next_of_fault g.F.Find.objects g.F.Find.faulty g.P.Predicate.answers _ c.in-Err.error _ c.in-Err.ensures.hides)

pub returns-clause-steps : goal.returns-clause-steps
returns-clause-steps g c =
    subst (λ w. FirstStep g.F.Find.objects g.F.Find.faulty g.P.Predicate.answers w c.step.result c.step.new.self) (λ j. record (c.self.view_is j) { begun = true })
    (next_of_hidden g.F.Find.objects g.F.Find.faulty g.P.Predicate.answers _ c.in_default.field-0 _ c.in_default.ensures.hides _ _ c.step.ensures.steps)
