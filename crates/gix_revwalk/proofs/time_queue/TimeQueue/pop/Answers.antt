use Rattle.std.proofs.Common.{SFits, rules, Some, subst, sym, w64}
use Rattle.std.proofs.lemmas.Int.{to_z-of_z}
use Rattle.gix_revwalk.specs.Turns.{TakesFirst, times_and_values}
use Rattle.gix_revwalk.proofs.InTurn.{takes_first, less_in_turn}
use Rattle.gix_revwalk.proofs.time_queue.TimeQueue.pop.Goals as goal

pub invariant_of-self-2 : goal.invariant_of-self-2
invariant_of-self-2 g c = less_in_turn c.self.inside.turn _ c.self.inside.queue c.pop.new.self c.self.invariant c.in_ok-turn.ensures.rest

pub returns : goal.returns
returns g c =
    let time : SFits w64 c.in_ok-turn.turn.time = search rules in
    rw (← c.self.view_is)
    (subst (λ t. TakesFirst (times_and_values c.self.inside.queue) (Some (t, c.in_ok-turn.value)) (times_and_values c.pop.new.self)) (sym (to_z-of_z w64 c.in_ok-turn.turn.time time))
    (takes_first (c.in_ok-turn.turn, c.in_ok-turn.value) c.self.inside.queue c.pop.new.self c.self.invariant.apart c.in_ok-turn.ensures.rest c.in_ok-turn.ensures.greatest))
