use Rattle.gix_contained.proofs.Meeting.{fails_as}
use Rattle.gix_contained.proofs.Meeting.{left_fails, left_step, none_left}
use Rattle.gix_contained.proofs.search.Search.meet_all.Goals as goal

pub loop-id-init : goal.loop-id-init
loop-id-init g c = record { meets = λ m. m; fails = λ why f. f }

pub returns-in_err-meet-clause-fault : goal.returns-in_err-meet-clause-fault
returns-in_err-meet-clause-fault g c =
    fails_as _ c.from_residual.result c.from_residual.ensures.1 (left_fails g.F.Find.objects g.F.Find.faulty c.loop-id.invariant c.in-Some.id.now c.in-Some.rest.now c.in-Some.ensures.cases.0 _ c.in_err-meet.ensures.fault)

pub loop-id-preserved : goal.loop-id-preserved
loop-id-preserved g c = left_step g.F.Find.objects g.F.Find.faulty c.loop-id.invariant c.in-Some.id.now c.in-Some.rest.now c.in-Some.ensures.cases.0 c.in_ok-meet.ensures.ok

pub returns-clause-ok : goal.returns-clause-ok
returns-clause-ok g c = none_left g.F.Find.objects g.F.Find.faulty c.loop-id.invariant c.in_default.ensures.cases
