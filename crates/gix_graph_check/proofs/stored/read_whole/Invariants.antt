use Rattle.std.proofs.Common.{◌≡◌, length}
use Rattle.gix_object.specs.CommitRefIter.{commit_items_left}
use Rattle.gix_object.specs.CommitText.{commit_of, commit_of_items}
use Rattle.gix_graph_check.proofs.stored.read_whole.Given as goal

-- what was read and what is left are the whole
abbrev pub invariant-loop-item : goal.invariant-loop-item
invariant-loop-item l = commit_of l.tree l.parent_ids.items (commit_items_left l.items) ≡ commit_of_items (commit_items_left l.fn.items)

abbrev pub decreases-loop-item : goal.decreases-loop-item
decreases-loop-item l = length (commit_items_left l.items)
