use Rattle.std.proofs.Common.{refl}
use Rattle.gix_topo.proofs.Common.{plan_over, err_from}
use Rattle.gix_topo.proofs.Starting.OneTip.{begun_by, fault_by, plan_before, begun_walk}
use Rattle.gix_topo.proofs.walk.Walk.begin.Goals as goal
use Rattle.gix_topo.proofs.Starting.Started.{start_fault}

pub returns-in_err-counting-clause-fault : goal.returns-in_err-counting-clause-fault
returns-in_err-counting-clause-fault g c =
    err_from _ c.from_residual.result c.in_err-counting.field-0.0 c.from_residual.ensures.1
    (fault_by g.F.Find.objects g.F.Find.faulty (plan_over c.args.reader c.args.parents c.args.sorting c.args.tips.items c.args.ends.items) c.as_slice.result.now c.as_slice-2.result.now c.as_slice.ensures.value c.as_slice-2.ensures.value c.in_err-counting.field-0.0 (c.in_err-counting.ensures.fault c.args.sorting))

pub returns-in_err-start_all-clause-fault : goal.returns-in_err-start_all-clause-fault
returns-in_err-start_all-clause-fault g c =
    err_from _ c.from_residual-in_err-start_all.result c.in_err-start_all.field-0.0 c.from_residual-in_err-start_all.ensures.1
    (start_fault g.F.Find.objects g.F.Find.faulty (plan_over c.args.reader c.args.parents c.args.sorting c.args.tips.items c.args.ends.items) (record { counting = c.in_ok-counting.counting; tips = c.args.tips; ends = c.args.ends; ready = c.new.result })
    (begun_by g.F.Find.objects g.F.Find.faulty (plan_over c.args.reader c.args.parents c.args.sorting c.args.tips.items c.args.ends.items) c.as_slice.result.now c.as_slice-2.result.now c.as_slice.ensures.value c.as_slice-2.ensures.value c.in_ok-counting.counting (c.in_ok-counting.ensures.begun c.args.sorting))
    (plan_before g.F.Find.objects g.F.Find.faulty (plan_over c.args.reader c.args.parents c.args.sorting c.args.tips.items c.args.ends.items) c.as_slice.result.now c.as_slice-2.result.now c.as_slice.ensures.value c.as_slice-2.ensures.value (record { counting = c.in_ok-counting.counting; tips = c.args.tips; ends = c.args.ends; ready = c.new.result }) (c.in_ok-counting.ensures.begun c.args.sorting) refl refl c.new.ensures.sorting)
    c.args.tips.items (λ i m. m) c.in_err-start_all.field-0.0 c.in_err-start_all.ensures.fault)

pub returns-clause-begun : goal.returns-clause-begun
returns-clause-begun g c =
    begun_walk g.F.Find.objects g.F.Find.faulty (plan_over c.args.reader c.args.parents c.args.sorting c.args.tips.items c.args.ends.items) c.as_slice.result.now c.as_slice-2.result.now c.as_slice.ensures.value c.as_slice-2.ensures.value (record { counting = c.in_ok-counting.counting; tips = c.args.tips; ends = c.args.ends; ready = c.new.result }) (c.in_ok-counting.ensures.begun c.args.sorting) refl refl c.new.ensures.sorting
    c.new.ensures.none c.start_all.new.self c.in_ok-start_all.ensures.starts.0 c.sort_by_rising_time.new.self c.in_ok-start_all.ensures.starts.1 c.start_all.ensures.same
    c.sort_by_rising_time.ensures.sorting c.in_ok-sort_by_rising_time.ensures.holds
