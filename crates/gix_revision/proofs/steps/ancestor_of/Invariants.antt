use Rattle.gix_revision.specs.Leads.{FirstParents}
use Rattle.gix_revision.proofs.steps.ancestor_of.Given as goal

abbrev pub invariant-loop-done : goal.invariant-loop-done
invariant-loop-done g l = FirstParents l.initial.id l.done l.id
