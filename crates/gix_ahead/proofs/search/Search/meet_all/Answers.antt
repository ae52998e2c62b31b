use Rattle.gix_ahead.proofs.Meeting.{left_step, none_left}
use Rattle.gix_ahead.proofs.search.Search.meet_all.Goals as goal

pub loop-id-preserved : goal.loop-id-preserved
loop-id-preserved g c = left_step g.F.Find.objects g.F.Find.faulty c.args.by c.loop-id.invariant c.in-Some.id.now c.in-Some.rest.now c.in-Some.ensures.cases.0 c.in_ok-meet.ensures.ok

pub returns-clause-ok : goal.returns-clause-ok
returns-clause-ok g c = none_left g.F.Find.objects g.F.Find.faulty c.args.by c.loop-id.invariant c.in_default.ensures.cases
