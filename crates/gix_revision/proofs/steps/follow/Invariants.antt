use Rattle.std.proofs.Common.{drop}
use Rattle.gix_hash.specs.declared.ObjectId.{ObjectId}
use Rattle.gix_revision.specs.Leads.{Leads}
use Rattle.gix_revision.proofs.steps.follow.Given as goal

-- what the steps that are left lead to is what all lead to
abbrev pub invariant-loop-step : goal.invariant-loop-step
invariant-loop-step g l = (found : ObjectId) → Leads l.id (drop l.step-index l.steps) found → Leads l.base l.steps found
