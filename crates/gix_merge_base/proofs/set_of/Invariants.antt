use Rattle.std.proofs.Common.{take}
use Rattle.gix_merge_base.specs.Inside.Steps.{Collects}
use Rattle.gix_merge_base.proofs.set_of.Given as goal

-- the ids of the list so far are in the set
abbrev pub invariant-loop-id : goal.invariant-loop-id
invariant-loop-id l = Collects (take l.id-index l.ids) l.those
