use Rattle.std.proofs.Common.{◌≡◌, length}
use Rattle.gix_topo.proofs.Common.{least, rows_of}
use Rattle.gix_topo.proofs.counting.Counting.lower.Given as goal

-- to lower by the ids that are left is to lower by all
abbrev pub invariant-loop-id : goal.invariant-loop-id
invariant-loop-id g l = record {
  reader : l.self.reader ≡ l.fn.self.reader;
  parents : l.self.parents ≡ l.fn.self.parents;
  frontier : l.self.frontier ≡ l.fn.self.frontier;
  expanded : l.self.expanded ≡ l.fn.self.expanded;
  depth : least (rows_of l.fn.self.reader.graph) l.self.depth l.ids ≡ least (rows_of l.fn.self.reader.graph) l.fn.self.depth l.fn.ids;
}

abbrev pub decreases-loop-id : goal.decreases-loop-id
decreases-loop-id g l = length l.ids
