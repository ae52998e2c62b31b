use Rattle.std.proofs.Common.{◌≡◌, filter, not, take}
use Rattle.std.specs.FinSet as set
use Rattle.gix_containing.proofs.others_among.Given as goal

-- of the ids so far those are kept that aren't marked
abbrev pub invariant-loop-id : goal.invariant-loop-id
invariant-loop-id l = l.those.items ≡ filter (λ i. not (set.contains l.marks i)) (take l.id-index l.ids)
