use Rattle.std.proofs.Common.{◌≡◌, ◌++◌}
use Rattle.gix_topo.proofs.init.Builder.with_ends.Given as goal

-- the ends that have come are kept behind the ends given before
abbrev pub invariant-loop-end : goal.invariant-loop-end
invariant-loop-end g l = (l.self-inside ≡ record l.initial.self-inside { ends = l.self-inside.ends }) × (l.self-inside.ends.items ≡ l.initial.self-inside.ends.items ++ l.yielded)
