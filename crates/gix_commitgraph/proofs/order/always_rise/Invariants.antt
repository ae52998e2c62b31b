use Rattle.std.proofs.Common.{◌≡◌, ℕ, ◌+◌, ◌<◌, true, get_or, is_lt}
use Rattle.gix_commitgraph.proofs.Common.{id_cmp, Entry}
use Rattle.gix_commitgraph.proofs.order.always_rise.Given as goal

abbrev pub invariant-loop-i : goal.invariant-loop-i
invariant-loop-i l = (k : ℕ) (d : Entry) → k + 1 < l.i → is_lt (id_cmp (get_or l.order k d).0 (get_or l.order (k + 1) d).0) ≡ true
