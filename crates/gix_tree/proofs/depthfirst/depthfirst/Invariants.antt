use Rattle.std.proofs.Common.{◌∷◌, reverse}
use Rattle.gix_tree.proofs.Common.{ids_down, items_at}
use Rattle.gix_tree.proofs.Depth.Stack.{AreWithin, left_above}
use Rattle.gix_tree.proofs.Depth.Loop.{DepthSoFar}
use Rattle.gix_tree.proofs.Work.Loops.{stack_work}
use Rattle.gix_tree.proofs.depthfirst.depthfirst.Given as goal

-- the walk goes on with what is left of the tree, and then of those above it
abbrev pub invariant-walk : goal.invariant-walk
invariant-walk g l = record {
  walk : DepthSoFar (g.F.Find.objects l.fn.objects) (g.F.Find.faulty l.fn.objects) g.V.Visit.steps l.fn.root l.fn.delegate l.delegate (ids_down (l.tree ∷ reverse l.above.items)) (items_at l.tree) (left_above (reverse l.above.items));
  within : AreWithin (l.tree ∷ reverse l.above.items);
}

abbrev pub decreases-walk : goal.decreases-walk
decreases-walk g l = stack_work (g.F.Find.objects l.fn.objects) (left_above (l.tree ∷ reverse l.above.items))
