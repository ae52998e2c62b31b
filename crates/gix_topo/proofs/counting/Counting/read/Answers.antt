use Rattle.std.proofs.Common.{◌≤◌, length, sym, ap, ◌∙◌, arith}
use Rattle.gix_topo.proofs.Common.{err_from, last_places}
use Rattle.gix_topo.proofs.Reading.OnceRead.{reading_fails}
use Rattle.gix_topo.proofs.Taking.OneRelease.{last_of_one, mode_of_one}
use Rattle.gix_topo.proofs.counting.Counting.read.Goals as goal

pub returns-in_err-info-clause-fault : goal.returns-in_err-info-clause-fault
returns-in_err-info-clause-fault g c = err_from _ c.from_residual.result c.in_err-info.field-0.0 c.from_residual.ensures.1 (reading_fails _ c.in_err-info.ensures.reads)

pub returns-then-len-le1-clause-reads : goal.returns-then-len-le1-clause-reads
returns-then-len-le1-clause-reads g c =
    let few : length c.in_ok-info.info.parent_ids.items ≤ 1 = omega (arith, c.len.ensures.value, c.if-len-le1.true) in
    record { info = c.in_ok-info.info; reads = c.in_ok-info.ensures.reads; named = last_of_one c.in_ok-info.info.parent_ids.items few ∙ ap last_places (sym (mode_of_one _ c.in_ok-info.info.parent_ids.items few)) }
