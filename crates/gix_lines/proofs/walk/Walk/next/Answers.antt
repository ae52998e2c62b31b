use Rattle.std.proofs.Common.{◌∷◌, [], ap, sym, subst, take, map, length, ◌∙◌}
use Rattle.gix_object.specs.TreeRefIter.{item_of, items_left}
use Rattle.gix_lines.specs.Inside.{AreLeft, Left, above_of}
use Rattle.gix_lines.proofs.Leaving.{at_fault, at_last, back_in}
use Rattle.gix_lines.proofs.walk.Walk.next.Goals as goal

pub returns-in-Some-Err : goal.returns-in-Some-Err
returns-in-Some-Err c = λ trees r records h.
    let came = c.in-Some-Err.ensures.steps.item ∙ ap (λ x. item_of x ∷ items_left c.next.new.self) c.in-Some-Err.field-0-is in
    let above = c.self.inside.above.items in
    at_fault (subst (λ items. Left trees (length above) items (map above_of (take c.self.inside.level above)) (r ∷ records)) came (subst (λ s. AreLeft trees s (r ∷ records)) (sym c.self.view_is) (c.levels.invariant trees r records h)))

pub returns-then-not-leave : goal.returns-then-not-leave
returns-then-not-leave c = λ trees r records h.
    let above = c.self.inside.above.items in
    let left = subst (λ s. AreLeft trees s (r ∷ records)) (sym c.self.view_is) (c.levels.invariant trees r records h) in
    at_last (subst (λ outer. Left trees (length above) [] outer (r ∷ records)) c.if-not-leave.ensures (subst (λ items. Left trees (length above) items (map above_of (take c.self.inside.level above)) (r ∷ records)) c.in-None.ensures.steps.item.0 left))

pub levels-preserved : goal.levels-preserved
levels-preserved c = λ trees r records h.
    let left = subst (λ s. AreLeft trees s (r ∷ records)) (sym c.self.view_is) (c.levels.invariant trees r records h) in
    let back = c.if-not-leave.ensures in
    back_in back.0 back.1 c.leave.new.self left c.in-None.ensures.steps.item.0 back.2 back.3
