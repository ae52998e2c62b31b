use Rattle.std.proofs.Common.{ℕ, List, ◌++◌, ◌≡◌, drop}
use Rattle.gix_format.proofs.ParentsLeft.{spaced}
use Rattle.gix_format.proofs.add_parents.Given as goal

-- what was added, and behind it what the parents that are left add, is the whole
abbrev pub invariant-loop-parent : goal.invariant-loop-parent
invariant-loop-parent l =
    (added : List ℕ) × (l.line.items ≡ l.fn.line.items ++ added) × (added ++ spaced (drop l.parent-index l.others) ≡ drop 1 (spaced l.fn.parents))
