use Rattle.std.proofs.Common.{◌≡◌, ◌++◌, take, w32, flat_map}
use Rattle.gix_commitgraph.proofs.Common.{to_be_bytes, overflow_words, rows_seen, arranged}
use Rattle.gix_commitgraph.proofs.pack.push_lists.Given as goal

abbrev pub invariant-loop-place : goal.invariant-loop-place
invariant-loop-place l = l.out.items ≡ l.fn.out.items ++ flat_map (to_be_bytes w32) (overflow_words (arranged (rows_seen l.rows) (take l.place-index l.order) l.numbers))
