use Rattle.std.proofs.Common.{◌≡◌, ℕ, ◌<◌, ◌≤◌, length, get_or}
use Rattle.gix_commitgraph.proofs.Common.{most, Entry}
use Rattle.gix_commitgraph.proofs.order.numbers.Given as goal

abbrev pub invariant-loop-number : goal.invariant-loop-number
invariant-loop-number l = record {
  len : length l.numbers.items ≡ length l.order;
  told : (k : ℕ) (d : Entry) → k < l.number → get_or l.numbers.items (get_or l.order k d).1 0 ≡ k;
  small : (place : ℕ) → get_or l.numbers.items place 0 ≤ most;
}
