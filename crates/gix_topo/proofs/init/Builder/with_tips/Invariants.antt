use Rattle.std.proofs.Common.{◌≡◌, ◌++◌}
use Rattle.gix_topo.proofs.init.Builder.with_tips.Given as goal

-- the tips that have come are kept behind the tips given before
abbrev pub invariant-loop-tip : goal.invariant-loop-tip
invariant-loop-tip g l = (l.self-inside ≡ record l.initial.self-inside { tips = l.self-inside.tips }) × (l.self-inside.tips.items ≡ l.initial.self-inside.tips.items ++ l.yielded)
