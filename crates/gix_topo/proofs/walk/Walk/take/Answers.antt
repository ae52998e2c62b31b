use Rattle.std.proofs.Common.{ap, ◌∙◌}
use Rattle.gix_topo.proofs.Common.{by_mode, on_ok, if_err}
use Rattle.gix_topo.proofs.Taking.OneRelease.{takes_one, fault_among, last_of_one}
use Rattle.gix_topo.proofs.walk.Walk.take.Goals as goal

pub returns-clause-takes : goal.returns-clause-takes
returns-clause-takes g c =
    on_ok c.release_all-2.result
    (λ h. (h.0, takes_one g.F.Find.objects g.F.Find.faulty c.args.self.now _ c.lower.new.self c.walked-named.result.now c.in_ok-ids.ids.items (c.walked-named.ensures ∙ ap (by_mode c.args.self.now.counting.parents) c.as_slice.ensures) c.lower.ensures c.in_ok-ids.ensures c.explore.new.self c.in_ok-explore.ensures.explores c.in_ok-explore.ensures.rested h.0 c.release_all-2.new.self h.1))
    (rw (c.as_slice-2.ensures) at c.release_all-2.ensures.releases)

pub returns-clause-fault : goal.returns-clause-fault
returns-clause-fault g c =
    if_err c.release_all-2.result
    (λ e f. fault_among g.F.Find.objects g.F.Find.faulty c.args.self.now _ c.lower.new.self c.walked-named.result.now c.in_ok-ids.ids.items (c.walked-named.ensures ∙ ap (by_mode c.args.self.now.counting.parents) c.as_slice.ensures) c.lower.ensures c.in_ok-ids.ensures c.explore.new.self c.in_ok-explore.ensures.explores c.in_ok-explore.ensures.rested e f)
    (rw (c.as_slice-2.ensures) at c.release_all-2.ensures.fault)

pub returns-then-named-le1-clause-takes : goal.returns-then-named-le1-clause-takes
returns-then-named-le1-clause-takes g c =
    on_ok c.release_all.result
    (λ h. (h.0, takes_one g.F.Find.objects g.F.Find.faulty c.args.self.now _ c.lower.new.self c.walked-named.result.now c.walked-named.result.now (c.walked-named.ensures ∙ ap (by_mode c.args.self.now.counting.parents) c.as_slice.ensures) c.lower.ensures (last_of_one c.walked-named.result.now c.if-named-le1.true) c.explore.new.self c.in_ok-explore.ensures.explores c.in_ok-explore.ensures.rested h.0 c.release_all.new.self h.1))
    c.release_all.ensures.releases

pub returns-then-named-le1-clause-fault : goal.returns-then-named-le1-clause-fault
returns-then-named-le1-clause-fault g c =
    if_err c.release_all.result
    (λ e f. fault_among g.F.Find.objects g.F.Find.faulty c.args.self.now _ c.lower.new.self c.walked-named.result.now c.walked-named.result.now (c.walked-named.ensures ∙ ap (by_mode c.args.self.now.counting.parents) c.as_slice.ensures) c.lower.ensures (last_of_one c.walked-named.result.now c.if-named-le1.true) c.explore.new.self c.in_ok-explore.ensures.explores c.in_ok-explore.ensures.rested e f)
    c.release_all.ensures.fault
