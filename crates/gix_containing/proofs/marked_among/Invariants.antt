use Rattle.std.proofs.Common.{◌≡◌, filter, take}
use Rattle.std.specs.FinSet as set
use Rattle.gix_containing.proofs.marked_among.Given as goal

-- of the ids so far those are kept that are marked
abbrev pub invariant-loop-id : goal.invariant-loop-id
invariant-loop-id l = l.those.items ≡ filter (set.contains l.marks) (take l.id-index l.ids)
