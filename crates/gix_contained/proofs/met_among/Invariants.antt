use Rattle.std.proofs.Common.{◌≡◌, filter, take}
use Rattle.std.specs.FinSet as set
use Rattle.gix_contained.proofs.met_among.Given as goal

-- of the ids so far those are kept that were met
abbrev pub invariant-loop-id : goal.invariant-loop-id
invariant-loop-id l = l.those.items ≡ filter (set.contains l.met) (take l.id-index l.ids)
