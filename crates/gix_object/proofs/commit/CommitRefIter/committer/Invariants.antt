use Rattle.std.proofs.Common.{◌≡◌, length}
use Rattle.gix_object.specs.CommitRefIter.{commit_items_left, first_committer}
use Rattle.gix_object.proofs.commit.CommitRefIter.committer.Given as goal

abbrev pub invariant-loop-self : goal.invariant-loop-self
invariant-loop-self l = first_committer (commit_items_left l.self) ≡ first_committer (commit_items_left l.initial.self)

abbrev pub decreases-loop-self : goal.decreases-loop-self
decreases-loop-self l = length (commit_items_left l.self)
