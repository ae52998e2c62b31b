use Rattle.std.proofs.Common.{◌≡◌, length}
use Rattle.gix_topo.proofs.Common.{Frontier, rows_of, MeetsAll}
use Rattle.gix_topo.proofs.counting.Counting.meet_all.Given as goal

-- to meet the ids that are left is to meet them all
abbrev pub invariant-loop-id : goal.invariant-loop-id
invariant-loop-id g l = record {
  same : l.self ≡ record l.fn.self { frontier = l.self.frontier };
  meets : (new : Frontier) → MeetsAll (rows_of l.fn.self.reader.graph) l.side l.self.frontier l.ids new → MeetsAll (rows_of l.fn.self.reader.graph) l.side l.fn.self.frontier l.fn.ids new;
}

abbrev pub decreases-loop-id : goal.decreases-loop-id
decreases-loop-id g l = length l.ids
