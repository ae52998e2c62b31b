use Rattle.std.proofs.Common.{take}
use Rattle.gix_merge_base.specs.Inside.Steps.{OthersOf}
use Rattle.gix_merge_base.proofs.push_others.Given as goal

-- of the ids so far the others are appended
abbrev pub invariant-loop-other : goal.invariant-loop-other
invariant-loop-other l = OthersOf l.id (take l.other-index l.ids) l.fn.those.items l.those.items
