use Rattle.std.proofs.Common.{◌≡◌, ◌≤◌, length, take}
use Rattle.gix_tree.proofs.Common.{without_name}
use Rattle.gix_tree.proofs.recorder.cut.Given as goal

-- no `/` is behind the first bytes that are left
abbrev pub invariant-loop-len : goal.invariant-loop-len
invariant-loop-len l = record {
  within : l.len ≤ length l.path.items;
  same : without_name (take l.len l.path.items) ≡ without_name l.path.items;
}

abbrev pub decreases-loop-len : goal.decreases-loop-len
decreases-loop-len l = l.len
