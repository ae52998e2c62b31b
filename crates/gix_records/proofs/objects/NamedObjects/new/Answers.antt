use Rattle.gix_records.proofs.Naming.{none_named}
use Rattle.gix_records.proofs.objects.NamedObjects.new.Goals as goal

pub invariant_of-result : goal.invariant_of-result
invariant_of-result c = rw c.new.ensures none_named

pub returns-clause-empty : goal.returns-clause-empty
returns-clause-empty c = c.new.ensures

pub returns-clause-named : goal.returns-clause-named
returns-clause-named c = rw c.new.ensures none_named
