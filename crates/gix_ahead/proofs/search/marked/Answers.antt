use Rattle.std.proofs.Common.{refl, ap, ◌∙◌}
use Rattle.gix_ahead.specs.declared.search.Search.{Search}
use Rattle.gix_ahead.specs.Inside.Search.{One, Other}
use Rattle.gix_ahead.proofs.Marking.{all_marked, goes_less, goes_on, goes_start, tip_fails, turn_fails}
use Rattle.gix_contained.proofs.Meeting.{fails_as}
use Rattle.gix_ahead.proofs.search.marked.Goals as goal

pub returns-in_err-meet-clause-fault : goal.returns-in_err-meet-clause-fault
returns-in_err-meet-clause-fault g c =
    let none : Search g.row.F.Denot = record { source = c.new.result; marks = c.new-2.result; queue = c.new-3.result } in
    fails_as _ c.from_residual.result c.from_residual.ensures.1 (tip_fails g.F.Find.objects g.F.Find.faulty c.args.objects.now c.args.one c.args.other One none (ap (λ o. o.now) c.new.ensures.objects) c.in_err-meet.field-0.0 c.in_err-meet.ensures.fault)

pub returns-in_err-meet-2-clause-fault : goal.returns-in_err-meet-2-clause-fault
returns-in_err-meet-2-clause-fault g c =
    fails_as _ c.from_residual-in_err-meet-2.result c.from_residual-in_err-meet-2.ensures.1
    (tip_fails g.F.Find.objects g.F.Find.faulty c.args.objects.now c.args.one c.args.other Other c.meet.new.self (ap (λ o. o.now) (c.in_ok-meet.ensures.ok.objects_stay ∙ c.new.ensures.objects)) c.in_err-meet-2.field-0.0 c.in_err-meet-2.ensures.fault)

pub loop-waiting-init : goal.loop-waiting-init
loop-waiting-init g c =
    let none : Search g.row.F.Denot = record { source = c.new.result; marks = c.new-2.result; queue = c.new-3.result } in
    goes_start g.F.Find.objects g.F.Find.faulty c.args.objects.now c.args.one c.args.other none c.meet.new.self c.meet-2.new.self (ap (λ o. o.now) c.new.ensures.objects) c.new-2.ensures c.new-3.ensures c.in_ok-meet.ensures.ok c.in_ok-meet-2.ensures.ok

pub loop-waiting-smaller : goal.loop-waiting-smaller
loop-waiting-smaller g c =
    let mid : Search g.row.F.Denot = record { source = c.loop-waiting.search.source; marks = c.loop-waiting.search.marks; queue = c.pop.new.self } in
    goes_less g.F.Find.objects g.F.Find.faulty c.args.objects.now c.args.one c.args.other c.loop-waiting.search mid c.loop-waiting.invariant (c.in-Some.field-0-0, c.in-Some.waiting) refl refl c.in-Some.ensures.rest c.follow.new.self c.in_ok-follow.ensures.ok

pub loop-waiting-preserved : goal.loop-waiting-preserved
loop-waiting-preserved g c =
    let mid : Search g.row.F.Denot = record { source = c.loop-waiting.search.source; marks = c.loop-waiting.search.marks; queue = c.pop.new.self } in
    goes_on g.F.Find.objects g.F.Find.faulty c.args.objects.now c.args.one c.args.other c.loop-waiting.search mid c.loop-waiting.invariant (c.in-Some.field-0-0, c.in-Some.waiting) refl refl c.in-Some.ensures.rest c.follow.new.self c.in_ok-follow.ensures.ok

pub returns-in_err-follow-clause-fault : goal.returns-in_err-follow-clause-fault
returns-in_err-follow-clause-fault g c =
    let mid : Search g.row.F.Denot = record { source = c.loop-waiting.search.source; marks = c.loop-waiting.search.marks; queue = c.pop.new.self } in
    fails_as _ c.from_residual-in_err-follow.result c.from_residual-in_err-follow.ensures.1 (turn_fails g.F.Find.objects g.F.Find.faulty c.args.objects.now c.args.one c.args.other c.loop-waiting.search mid c.loop-waiting.invariant (c.in-Some.field-0-0, c.in-Some.waiting) refl refl c.in-Some.ensures.rest c.in_err-follow.field-0.0 c.in_err-follow.ensures.fault)

pub returns-clause-ok : goal.returns-clause-ok
returns-clause-ok g c = all_marked g.F.Find.objects g.F.Find.faulty c.args.objects.now c.args.one c.args.other c.loop-waiting.search c.loop-waiting.invariant c.in_default.ensures.empty.0
