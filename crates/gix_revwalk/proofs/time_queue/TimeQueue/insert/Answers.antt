use Rattle.std.proofs.Common.{◌≡◌, ◌++◌, ◌∷◌, [], refl, rules, subst, w64, arith}
use Rattle.std.proofs.lemmas.Int.{to_z-of_z}
use Rattle.gix_revwalk.specs.Turns.{times_and_values}
use Rattle.gix_revwalk.proofs.InTurn.{more_in_turn}
use Rattle.gix_revwalk.proofs.time_queue.TimeQueue.insert.Goals as goal

pub invariant_of-self-2 : goal.invariant_of-self-2
invariant_of-self-2 g c = (more_in_turn c.in-Some.next c.self.inside.turn _ c.self.inside.queue c.insert.new.self c.self.invariant refl (omega (arith, c.in-Some.ensures)) c.in_ok-insert.ensures.ok).0

pub returns-clause-ok : goal.returns-clause-ok
returns-clause-ok g c =
    rw (← c.self.view_is)
    (subst (λ t. times_and_values c.insert.new.self ≡ times_and_values c.self.inside.queue ++ (t, c.args.value) ∷ []) (to_z-of_z w64 c.args.time (search rules))
    (more_in_turn c.in-Some.next c.self.inside.turn _ c.self.inside.queue c.insert.new.self c.self.invariant refl (search rules) c.in_ok-insert.ensures.ok).1)
