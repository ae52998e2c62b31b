use Rattle.std.proofs.Common.{◌≡◌, ℕ, ◌-◌, ◌<◌, ◌≤◌, length, Less, Greater}
use Rattle.gix_commitgraph.proofs.Common.{id_cmp, row_at}
use Rattle.gix_commitgraph.proofs.Graph.commit_by_id.Given as goal

-- the rows before `low` have lower ids, and those from `high` on higher ones
abbrev pub invariant-loop-low : goal.invariant-loop-low
invariant-loop-low l = record {
  in_order : l.low ≤ l.high;
  within : l.high ≤ length l.self;
  lower : (r : ℕ) → r < l.low → id_cmp (row_at l.self r).id l.id ≡ Less;
  higher : (r : ℕ) → l.high ≤ r → r < length l.self → id_cmp (row_at l.self r).id l.id ≡ Greater;
}

abbrev pub decreases-loop-low : goal.decreases-loop-low
decreases-loop-low l = l.high - l.low
