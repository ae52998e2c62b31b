use Rattle.std.proofs.Common.{◌≡◌, length}
use Rattle.gix_object.specs.CommitRefIter.{commit_items_left, next_parent, behind_parent}
use Rattle.gix_object.proofs.commit.CommitRefIter.next_parent.Given as goal

abbrev pub invariant-loop-self : goal.invariant-loop-self
invariant-loop-self l = record {
  parent : next_parent (commit_items_left l.self) ≡ next_parent (commit_items_left l.initial.self);
  left : behind_parent (commit_items_left l.self) ≡ behind_parent (commit_items_left l.initial.self);
}

abbrev pub decreases-loop-self : goal.decreases-loop-self
decreases-loop-self l = length (commit_items_left l.self)
