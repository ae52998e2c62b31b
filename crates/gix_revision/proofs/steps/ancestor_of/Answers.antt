use Rattle.gix_revision.specs.Leads.{none, one_more}
use Rattle.gix_revision.proofs.steps.ancestor_of.Goals as goal

pub loop-done-init : goal.loop-done-init
loop-done-init g c = none

pub loop-done-preserved : goal.loop-done-preserved
loop-done-preserved g c = one_more c.loop-done.invariant c.in_ok-parent.ensures
