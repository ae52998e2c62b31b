use Rattle.gix_revision.specs.Leads.{Untags}
use Rattle.gix_revision.proofs.steps.untag.Given as goal

abbrev pub invariant-loop : goal.invariant-loop
invariant-loop g l = Untags l.from l.id
