use Rattle.std.proofs.Common.{filter, not, ◌≡◌, ◌++◌, length}
use Rattle.std.specs.FinSet as set
use Rattle.gix_simple.proofs.hide.visible.Given as goal

-- the tips already shown, and the tips among the rest that will be, are all
abbrev pub invariant-loop-tip : goal.invariant-loop-tip
invariant-loop-tip l = l.shown.items ++ filter (λ tip. not (set.contains l.hidden tip.id)) l.tips.items ≡ filter (λ tip. not (set.contains l.hidden tip.id)) l.fn.tips.items

abbrev pub decreases-loop-tip : goal.decreases-loop-tip
decreases-loop-tip l = length l.tips.items
