use Rattle.std.proofs.Common.{◌∷◌, sym, ap, subst, ◌∙◌}
use Rattle.std.specs.VecDeque.Iter.{deque_iter_rest}
use Rattle.gix_paint.specs.declared.Side.TheVariants as side
use Rattle.gix_paint.proofs.Common.{ids_of}
use Rattle.gix_paint.proofs.Meets.{IsLeft, left_step, none_left}
use Rattle.std.proofs.lemmas.List.{length-map}
use Rattle.gix_paint.proofs.Painter.show_all.Goals as goal

pub loop-tip-init : goal.loop-tip-init
loop-tip-init g c =
    subst (λ tips. IsLeft side.Visible (ids_of tips) c.args.self.now (ids_of (deque_iter_rest c.into_iter-tip-iterator.result)) c.args.self.now) (ap deque_iter_rest c.into_iter-tip-iterator.ensures.into_iter_gives ∙ c.iter-tip-items.ensures.rest) (λ new m. m)

pub loop-tip-preserved : goal.loop-tip-preserved
loop-tip-preserved g c =
    left_step c.loop-tip.invariant c.tip.inside.id (ids_of (deque_iter_rest c.next.new.self)) (ap ids_of c.in-Some.ensures.steps ∙ ap (λ tip. tip.id ∷ ids_of (deque_iter_rest c.next.new.self)) (sym c.tip.view_is)) _ c.in_ok-show.ensures

pub returns : goal.returns
returns g c = none_left c.loop-tip.invariant (length-map (deque_iter_rest c.loop-tip.tip-iterator) (λ p. p.id) ∙ c.in-None.ensures.steps.0)
