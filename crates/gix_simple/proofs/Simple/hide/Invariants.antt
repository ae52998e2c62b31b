use Rattle.std.proofs.Common.{◌≡◌}
use Rattle.gix_simple.proofs.Simple.hide.Given as goal

-- the tips that have come are kept
abbrev pub invariant-loop-tip : goal.invariant-loop-tip
invariant-loop-tip g l = l.hidden_tips.items ≡ l.yielded
