use Rattle.std.proofs.Common.{◌∙◌}
use Rattle.std.proofs.lemmas.Result.{err_from_is_err_and}
use Rattle.gix_records.proofs.records_in.Goals as goal

pub returns-in_err-objects-clause-fault : goal.returns-in_err-objects-clause-fault
returns-in_err-objects-clause-fault c =
    let p = err_from_is_err_and c.from_residual.result c.from_residual.ensures.1 in
    rw (p.1, p.2) c.in_err-objects.ensures.fault

pub returns-in_err-objects-clause-only : goal.returns-in_err-objects-clause-only
returns-in_err-objects-clause-only c =
    let p = err_from_is_err_and c.from_residual.result c.from_residual.ensures.1 in
    λ records are. rw (p.1, p.2) (c.in_err-objects.ensures.only records are)

pub returns-clause-read : goal.returns-clause-read
returns-clause-read c =
    let read = c.in_ok-objects.ensures.read in
    (read.0, read.1, c.over.ensures ∙ read.2)

pub returns-clause-only : goal.returns-clause-only
returns-clause-only c = λ records are. c.over.ensures ∙ c.in_ok-objects.ensures.only records are
