use Rattle.std.proofs.Common.{◌≡◌, length}
use Rattle.gix_object.specs.CommitText.{commit_of, read_commit}
use Rattle.gix_object.specs.CommitRefIter.{commit_items_left}
use Rattle.gix_revision.proofs.texts.links_of.Given as goal

-- what is read of the items that are left is what is read of all
abbrev pub invariant-loop-item : goal.invariant-loop-item
invariant-loop-item l = commit_of l.tree l.parents.items (commit_items_left l.items) ≡ read_commit l.fn.kind l.bytes

abbrev pub decreases-loop-item : goal.decreases-loop-item
decreases-loop-item l = length (commit_items_left l.items)
