use Rattle.std.proofs.Common.{take}
use Rattle.gix_containing.specs.Inside.Steps.{AddsChild}
use Rattle.gix_containing.proofs.children.add_to_each.Given as goal

-- the commit is a child of the parents so far
abbrev pub invariant-loop-parent : goal.invariant-loop-parent
invariant-loop-parent l = AddsChild l.child (take l.parent-index l.parent_ids) l.fn.children l.children
