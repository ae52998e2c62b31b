use Rattle.std.proofs.Common.{refl}
use Rattle.gix_topo.proofs.Common.{infinity, err_from}
use Rattle.gix_topo.proofs.Counts.Begin.{begun_from, fault_from}
use Rattle.gix_topo.proofs.counting.Counting.begin.Goals as goal

pub returns-clause-begun : goal.returns-clause-begun
returns-clause-begun g c = λ sorting.
    begun_from g.F.Find.objects g.F.Find.faulty c.args.tips.now c.args.ends.now (record { reader = c.args.reader; parents = c.args.parents; frontier = c.new.result; depth = infinity; expanded = 0 }) c.meet_all.new.self c.meet_all-2.new.self c.lower.new.self c.lower-2.new.self c.requires refl refl c.new.ensures.queue c.new.ensures.known
    c.in_ok-meet_all.ensures.same c.in_ok-meet_all.ensures.meets c.in_ok-meet_all-2.ensures.same c.in_ok-meet_all-2.ensures.meets c.lower.ensures c.lower-2.ensures sorting c.explore.new.self c.in_ok-explore.ensures.explores c.in_ok-explore.ensures.rested

pub returns-in_err-explore-clause-fault : goal.returns-in_err-explore-clause-fault
returns-in_err-explore-clause-fault g c = λ sorting.
    err_from _ c.from_residual-in_err-explore.result c.in_err-explore.field-0.0 c.from_residual-in_err-explore.ensures.1
    (fault_from g.F.Find.objects g.F.Find.faulty c.args.tips.now c.args.ends.now (record { reader = c.args.reader; parents = c.args.parents; frontier = c.new.result; depth = infinity; expanded = 0 }) c.meet_all.new.self c.meet_all-2.new.self c.lower.new.self c.lower-2.new.self c.requires refl refl c.new.ensures.queue c.new.ensures.known
    c.in_ok-meet_all.ensures.same c.in_ok-meet_all.ensures.meets c.in_ok-meet_all-2.ensures.same c.in_ok-meet_all-2.ensures.meets c.lower.ensures c.lower-2.ensures sorting c.in_err-explore.field-0.0 c.in_err-explore.ensures.fault)
