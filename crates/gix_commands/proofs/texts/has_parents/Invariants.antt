use Rattle.std.proofs.Common.{◌≡◌, length}
use Rattle.gix_commands.proofs.Common.{scanned}
use Rattle.gix_object.specs.CommitRefIter.{commit_items_left}
use Rattle.gix_revwalk.specs.declared.Parents.TheVariants as mode
use Rattle.gix_commands.proofs.texts.has_parents.Given as goal

-- what is left ends as the whole does
abbrev pub invariant-loop-item : goal.invariant-loop-item
invariant-loop-item l = record { shown : (scanned mode.All (commit_items_left l.items)).1 ≡ (scanned mode.All (commit_items_left l.fn.items)).1 }

abbrev pub decreases-loop-item : goal.decreases-loop-item
decreases-loop-item l = length (commit_items_left l.items)
