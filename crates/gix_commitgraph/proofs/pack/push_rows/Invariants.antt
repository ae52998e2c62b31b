use Rattle.std.proofs.Common.{◌≡◌, ◌++◌, length, take}
use Rattle.gix_commitgraph.proofs.Common.{AllByRecursion, rows_bytes, overflow_words, rows_seen, arranged, IsInRange}
use Rattle.gix_commitgraph.proofs.pack.push_rows.Given as goal

abbrev pub invariant-loop-place : goal.invariant-loop-place
invariant-loop-place l = record {
  next_is : l.next ≡ length (overflow_words (arranged (rows_seen l.rows) (take l.place-index l.order) l.numbers));
  written : l.out.items ≡ l.fn.out.items ++ rows_bytes 0 (arranged (rows_seen l.rows) (take l.place-index l.order) l.numbers);
  range : AllByRecursion IsInRange (arranged (rows_seen l.rows) (take l.place-index l.order) l.numbers);
}
