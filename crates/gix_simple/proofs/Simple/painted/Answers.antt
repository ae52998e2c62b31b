use Rattle.std.proofs.Common.{ap, ◌∙◌, IfOk, IfErr, ◌≢◌, [], if◌then◌else◌}
use Rattle.gix_simple.proofs.Common.{transport, Paints, IsHiddenFault, ids_of}
use Rattle.gix_object.specs.declared.find.existing_iter.Error.TheVariants as existing
use Rattle.gix_paint.specs.declared.Hidden.TheVariants as hidden_by
use Rattle.gix_simple.proofs.Simple.painted.Goals as goal

pub returns-clause-ok : goal.returns-clause-ok
returns-clause-ok g c =
    let tips = c.as_slice.ensures.value ∙ ap (λ w. w.hidden_tips) c.self.view_is in
    transport (λ k. IfOk c.paint.result (λ p. Paints (g.F.Find.objects (c.self.view_is k).store) (c.graph.ensures k) (ids_of c.args.tips.now.items) (tips k) p.hidden (if p.rows_in_use then c.graph.ensures k else []))) c.paint.ensures.ok

pub returns-clause-fault : goal.returns-clause-fault
returns-clause-fault g c =
    let tips = c.as_slice.ensures.value ∙ ap (λ w. w.hidden_tips) c.self.view_is in
    transport (λ k. IfErr c.paint.result (λ why. why ≢ hidden_by.Find existing.Memory → IsHiddenFault (g.F.Find.objects (c.self.view_is k).store) (g.F.Find.faulty (c.self.view_is k).store) (c.graph.ensures k) (ids_of c.args.tips.now.items) (tips k) why)) c.paint.ensures.fault
