use Rattle.gix_revision.specs.Resolves.{nothing, more}
use Rattle.gix_revision.proofs.meaning.resolve_all.Goals as goal

pub loop-named-init : goal.loop-named-init
loop-named-init g c = nothing

pub loop-named-preserved : goal.loop-named-preserved
loop-named-preserved g c = more c.loop-named.invariant c.in_ok-add_commit.ensures

pub loop-head-preserved : goal.loop-head-preserved
loop-head-preserved g c = more c.loop-head.invariant c.in_ok-add_commit-2.ensures
