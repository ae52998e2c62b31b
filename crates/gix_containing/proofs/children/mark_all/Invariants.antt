use Rattle.std.proofs.Common.{take}
use Rattle.gix_containing.specs.Inside.Steps.{MarksNew}
use Rattle.gix_containing.proofs.children.mark_all.Given as goal

-- the ids so far are marked
abbrev pub invariant-loop-id : goal.invariant-loop-id
invariant-loop-id l = MarksNew (take l.id-index l.ids) l.fn.marks l.fn.waiting.items l.marks l.waiting.items
