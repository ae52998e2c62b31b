use Rattle.std.proofs.Common.{◌++◌, ◌∷◌, [], sym, ap, ◌∙◌, append_assoc, append-nil}
use Rattle.gix_revwalk.specs.PriorityQueue.{values}
use Rattle.gix_revwalk.specs.Turns.{by_turn}
use Rattle.gix_revwalk.proofs.InTurn.{in_turn, goes_over, comes_next, shorter, number}
use Rattle.gix_revwalk.proofs.time_queue.TimeQueue.into_values.Goals as goal

pub loop-turn-smaller : goal.loop-turn-smaller
loop-turn-smaller g c = shorter (c.in-Some.turn, c.in-Some.value) c.loop-turn.queue c.pop.new.self c.in-Some.ensures.rest

pub loop-turn-preserved : goal.loop-turn-preserved
loop-turn-preserved g c = goes_over c.self.inside.queue c.loop-turn.queue c.pop.new.self c.loop-turn.by_turn c.insert.new.self (c.in-Some.turn, c.in-Some.value) c.loop-turn.invariant c.in-Some.ensures.rest c.in_ok-insert.ensures.ok

pub loop-value-init : goal.loop-value-init
loop-value-init g c = record {
  apart = (in_turn c.self.inside.queue c.loop-turn.queue c.loop-turn.by_turn c.self.invariant.apart c.loop-turn.invariant c.in_default.ensures.empty.0).0;
  listed = ap (λ all. all ++ values (by_turn number c.loop-turn.by_turn)) (sym c.new-all.ensures.items);
}

pub loop-value-smaller : goal.loop-value-smaller
loop-value-smaller g c = shorter (c.in-Some-pop.field-0-0, c.in-Some-pop.value) c.loop-value.by_turn c.pop-in-loop-value.new.self c.in-Some-pop.ensures.rest

pub loop-value-preserved : goal.loop-value-preserved
loop-value-preserved g c =
    let next = comes_next (c.in-Some-pop.field-0-0, c.in-Some-pop.value) c.loop-value.by_turn c.pop-in-loop-value.new.self c.loop-value.invariant.apart c.in-Some-pop.ensures.rest c.in-Some-pop.ensures.greatest in
    let left = values (by_turn number c.pop-in-loop-value.new.self) in
    record {
      apart = next.1;
      listed = c.loop-value.invariant.listed ∙ ap (λ those. c.loop-value.all.items ++ those) next.0 ∙ sym (append_assoc c.loop-value.all.items (c.in-Some-pop.value ∷ []) left) ∙ ap (λ all. all ++ left) (sym c.in_ok-push.ensures.items);
    }

pub returns : goal.returns
returns g c =
    sym (append-nil c.loop-value.all.items)
    ∙ ap (λ left. c.loop-value.all.items ++ values (by_turn number left)) (sym c.in_default-pop.ensures.empty.0)
    ∙ sym c.loop-value.invariant.listed
    ∙ (in_turn c.self.inside.queue c.loop-turn.queue c.loop-turn.by_turn c.self.invariant.apart c.loop-turn.invariant c.in_default.ensures.empty.0).1
    ∙ ap values c.self.view_is
