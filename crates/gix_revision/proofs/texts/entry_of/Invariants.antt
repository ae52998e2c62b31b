use Rattle.std.proofs.Common.{◌≡◌, length}
use Rattle.gix_object.specs.TreeItems.{tree_items}
use Rattle.gix_object.specs.TreeRefIter.{items_left}
use Rattle.gix_revision.specs.Leads.{entry_named}
use Rattle.gix_revision.proofs.texts.entry_of.Given as goal

-- what is found among the entries that are left is what is found among all
abbrev pub invariant-loop-entry : goal.invariant-loop-entry
invariant-loop-entry l = entry_named l.name (items_left l.entries) ≡ entry_named l.name (tree_items l.fn.kind l.bytes)

abbrev pub decreases-loop-entry : goal.decreases-loop-entry
decreases-loop-entry l = length (items_left l.entries)
