use Rattle.std.proofs.Common.{◌+◌, [], ◌∷◌, sym, ap, ◌∙◌}
use Rattle.gix_topo.proofs.Counts.MakesReady.{due_by}
use Rattle.gix_topo.proofs.Common.{uncounted, unread, on_ok, if_err}
use Rattle.gix_topo.specs.Inside.Releasing.{waits, frees}
use Rattle.gix_topo.proofs.walk.Walk.release.Goals as goal

pub returns-in_default-clause-fault : goal.returns-in_default-clause-fault
returns-in_default-clause-fault g c = uncounted c.in_default.ensures.none

pub returns-then-not-is_due-clause-releases : goal.returns-then-not-is_due-clause-releases
returns-then-not-is_due-clause-releases g c =
    let known = c.in-Some.ensures.known in
    ([], waits _ (c.in-Some.ensures.less ∙ ap (λ k. k.indegree + 1) known) c.in-Some.ensures.counts (due_by known c.indegree.ensures ∙ sym c.is_due.ensures ∙ c.if-not-is_due.true))

pub returns-clause-releases : goal.returns-clause-releases
returns-clause-releases g c =
    let known = c.in-Some.ensures.known in
    on_ok c.push.result
    (λ p. (p.0 ∷ [], frees _ (c.in-Some.ensures.less ∙ ap (λ k. k.indegree + 1) known) c.in-Some.ensures.counts (due_by known c.indegree.ensures ∙ sym c.is_due.ensures ∙ c.if-not-is_due.false) p.1))
    c.push.ensures.pushes

pub returns-clause-fault : goal.returns-clause-fault
returns-clause-fault g c =
    let known = c.in-Some.ensures.known in
    if_err c.push.result
    (λ e f. unread _ (c.in-Some.ensures.less ∙ ap (λ k. k.indegree + 1) known) c.in-Some.ensures.counts (due_by known c.indegree.ensures ∙ sym c.is_due.ensures ∙ c.if-not-is_due.false) f)
    c.push.ensures.fault
