use Rattle.std.proofs.Common.{[], ◌∷◌, subst, sym}
use Rattle.gix_paint.proofs.Common.{Meets}
use Rattle.gix_paint.proofs.Meets.{left_step, none_left}
use Rattle.gix_paint.proofs.Painter.meet_all.Goals as goal

pub loop-id-init : goal.loop-id-init
loop-id-init g c = λ new m. m

pub loop-id-preserved : goal.loop-id-preserved
loop-id-preserved g c =
    left_step c.loop-id.invariant c.in-Some.id.now c.in-Some.rest.now c.in-Some.ensures.cases.0 _ (subst (λ on. Meets on (c.in-Some.id.now ∷ []) c.loop-id.self c.hide.new.self) (sym c.in-Hidden.is) c.in_ok-hide-in-Hidden.ensures)

pub loop-id-preserved-in_ok-show-in-Visible : goal.loop-id-preserved-in_ok-show-in-Visible
loop-id-preserved-in_ok-show-in-Visible g c =
    left_step c.loop-id.invariant c.in-Some.id.now c.in-Some.rest.now c.in-Some.ensures.cases.0 _ (subst (λ on. Meets on (c.in-Some.id.now ∷ []) c.loop-id.self c.show.new.self) (sym c.in-Visible.is) c.in_ok-show-in-Visible.ensures)

pub returns : goal.returns
returns g c = none_left c.loop-id.invariant c.in_default.ensures.cases
