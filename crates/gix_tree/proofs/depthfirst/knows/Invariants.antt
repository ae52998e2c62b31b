use Rattle.std.proofs.Common.{◌≡◌, drop}
use Rattle.gix_tree.proofs.Depth.Stack.{is_of}
use Rattle.gix_tree.proofs.depthfirst.knows.Given as goal

-- whether the id is the id of a tree depends on the trees that are left alone
abbrev pub invariant-loop-upper : goal.invariant-loop-upper
invariant-loop-upper l = is_of l.oid (drop l.upper-index l.above) ≡ is_of l.oid l.above
