use Rattle.std.proofs.lemmas.Result.{err_from_is_err_and}
use Rattle.gix_records.proofs.ReadingFacts.{fails_to_read, fails_of_record}
use Rattle.gix_records.proofs.read.Goals as goal

pub returns-in_err-input-clause-fault : goal.returns-in_err-input-clause-fault
returns-in_err-input-clause-fault g c = let p = err_from_is_err_and c.from_residual.result c.from_residual.ensures.1 in rw (p.1, p.2) (fails_to_read _ _ c.in_err-input.ensures.fault)

pub returns-clause-fault : goal.returns-clause-fault
returns-clause-fault g c = fails_of_record _ _ c.records_of.result c.in_ok-input.ensures.whole c.records_of.ensures.fault
