use Rattle.std.proofs.Common.{Result, length}
use Rattle.gix_tree.proofs.Common.{items_left, Error, LevelQueue, ShowsTree}
use Rattle.gix_tree.proofs.breadthfirst.show_all.Given as goal

-- to show the entries that are left is to show them all
abbrev pub invariant-loop-entry : goal.invariant-loop-entry
invariant-loop-entry g l =
    (new : g.row.V.Denot) (left : LevelQueue) (answer : Result (Unit {0}) Error) → ShowsTree g.V.Visit.steps (items_left l.entries) l.delegate l.queue new left answer
    → ShowsTree g.V.Visit.steps (items_left l.fn.entries) l.fn.delegate l.fn.queue new left answer

abbrev pub decreases-loop-entry : goal.decreases-loop-entry
decreases-loop-entry g l = length (items_left l.entries)
