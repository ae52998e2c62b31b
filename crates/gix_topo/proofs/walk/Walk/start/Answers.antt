use Rattle.std.proofs.Common.{[], ◌∷◌, sym, ◌∙◌}
use Rattle.gix_topo.proofs.Counts.MakesReady.{due_by}
use Rattle.gix_topo.specs.Inside.Starting.{waits, frees, here}
use Rattle.gix_topo.proofs.Common.{on_ok, if_err}
use Rattle.gix_topo.proofs.walk.Walk.start.Goals as goal

pub returns-then-not-is_due-clause-starts : goal.returns-then-not-is_due-clause-starts
returns-then-not-is_due-clause-starts g c = ([], waits (due_by c.known-known.ensures c.indegree.ensures ∙ sym c.is_due.ensures ∙ c.if-not-is_due.true))

pub returns-clause-starts : goal.returns-clause-starts
returns-clause-starts g c =
    on_ok c.push.result (λ p. (p.0 ∷ [], frees (due_by c.known-known.ensures c.indegree.ensures ∙ sym c.is_due.ensures ∙ c.if-not-is_due.false) p.1)) c.push.ensures.pushes

pub returns-clause-fault : goal.returns-clause-fault
returns-clause-fault g c = λ ids. if_err c.push.result (λ e f. here (due_by c.known-known.ensures c.indegree.ensures ∙ sym c.is_due.ensures ∙ c.if-not-is_due.false) f) c.push.ensures.fault
