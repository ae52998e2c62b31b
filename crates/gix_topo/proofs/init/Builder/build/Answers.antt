use Rattle.std.proofs.Common.{inr, ap, subst, ◌∙◌}
use Rattle.gix_topo.proofs.Common.{plan_over, IsBuildFault}
use Rattle.gix_topo.proofs.Starting.Started.{started_on, started_as, begun_held}
use Rattle.gix_topo.proofs.init.Builder.build.Goals as goal

pub invariant_of-result : goal.invariant_of-result
invariant_of-result g c = inr (begun_held g.F.Find.objects g.F.Find.faulty _ c.in-Ok.walk c.in-Ok.ensures.begun)

pub returns-in-Ok : goal.returns-in-Ok
returns-in-Ok g c = (
  record {
    plan = c.in-Ok.ensures.begun.same ∙ ap (λ r. plan_over r c.self.inside.parents c.self.inside.sorting c.self.inside.tips.items c.self.inside.ends.items) c.new-reader.ensures ∙ ap (λ b. b.plan) c.self.view_is;
    predicate = ap (λ b. b.predicate) c.self.view_is;
  },
  started_as g.F.Find.objects g.F.Find.faulty g.P.Predicate.answers c.in-Ok.walk c.self.inside.predicate (started_on g.F.Find.objects g.F.Find.faulty _ c.in-Ok.walk c.in-Ok.ensures.begun),
)

pub returns-in-Err : goal.returns-in-Err
returns-in-Err g c =
    subst (λ plan. IsBuildFault g.F.Find.objects g.F.Find.faulty plan c.in-Err.fault)
    (ap (λ r. plan_over r c.self.inside.parents c.self.inside.sorting c.self.inside.tips.items c.self.inside.ends.items) c.new-reader.ensures ∙ ap (λ b. b.plan) c.self.view_is)
    c.in-Err.ensures.fault
