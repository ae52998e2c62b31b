use Rattle.gix_containing.proofs.Climbing.{IsClimbing, room}
use Rattle.gix_containing.proofs.children.descendants.Given as goal

-- what is marked is above the commit, and has its children marked unless it waits
abbrev pub invariant-loop-next : goal.invariant-loop-next
invariant-loop-next l = IsClimbing l.children l.fn.id l.marks l.waiting.items

abbrev pub decreases-loop-next : goal.decreases-loop-next
decreases-loop-next l = room l.children l.marks l.waiting.items
