use Rattle.std.proofs.Common.{◌≡◌, take}
use Rattle.gix_commitgraph.proofs.Common.{rows_seen, entries_from}
use Rattle.gix_commitgraph.proofs.order.entries.Given as goal

abbrev pub invariant-loop-place : goal.invariant-loop-place
invariant-loop-place l = l.entries.items ≡ entries_from 0 (rows_seen (take l.place l.rows))
