use Rattle.std.proofs.Common.{◌≡◌, ◌≤◌, length, take}
use Rattle.gix_commitgraph.proofs.Common.{most, overflow_words, rows_seen}
use Rattle.gix_commitgraph.proofs.rows.count_words.Given as goal

abbrev pub invariant-loop-row : goal.invariant-loop-row
invariant-loop-row l = (l.words ≡ length (overflow_words (rows_seen (take l.row-index l.rows)))) × (l.words ≤ most)
