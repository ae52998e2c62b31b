use Rattle.std.proofs.Common.{[]}
use Rattle.gix_tree.proofs.Common.{items_left}
use Rattle.gix_tree.proofs.Levels.Loop.{LevelSoFar}
use Rattle.gix_tree.proofs.Work.Loops.{waiting_work}
use Rattle.gix_tree.proofs.breadthfirst.breadthfirst.Given as goal

-- the entries of the tree whose turn it is were shown, and the walk goes on with the trees that wait
abbrev pub invariant-loop-oid : goal.invariant-loop-oid
invariant-loop-oid g l = LevelSoFar (g.F.Find.objects l.fn.objects) (g.F.Find.faulty l.fn.objects) g.V.Visit.steps (items_left l.fn.root) l.fn.delegate l.delegate l.state.queue.known [] l.state.queue.waiting

abbrev pub decreases-loop-oid : goal.decreases-loop-oid
decreases-loop-oid g l = waiting_work (g.F.Find.objects l.fn.objects) l.state.queue.waiting
