use Rattle.std.proofs.Common.{◌∷◌, List, Option, length}
use Rattle.gix_hash.specs.declared.ObjectId.{ObjectId}
use Rattle.gix_tree.specs.Recorder.{Record}
use Rattle.gix_tree.specs.Visits.{Items}
use Rattle.gix_lines.specs.Inside.{AreLeft}
use Rattle.gix_lines.proofs.walk.Walk.next.Given as goal

-- the walk has before it what it had
abbrev pub invariant-levels : goal.invariant-levels
invariant-levels l = (trees : ObjectId → Option Items) (r : Record) (records : List Record) → AreLeft trees l.fn.self (r ∷ records) → AreLeft trees l.self (r ∷ records)

abbrev pub decreases-levels : goal.decreases-levels
decreases-levels l = length l.self.above
