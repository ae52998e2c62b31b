use Rattle.std.proofs.Common.{◌≡◌, ◌-◌, ◌*◌, ◌≤◌, length, None, IfSome}
use Rattle.gix_commitgraph.proofs.Common.{words_of, row_len, id_before, rows_left, faults}
use Rattle.gix_commitgraph.proofs.check.check_rows.Given as goal

-- the rows that are left are there, and reading on finds what reading all finds
abbrev pub invariant-loop-r : goal.invariant-loop-r
invariant-loop-r l = record {
  whole : row_len l.layout.kind * (l.layout.rows - l.r) ≤ length l.left;
  before : IfSome l.before (λ row. row_len l.layout.kind ≤ length row.now);
  same : faults (rows_left l.layout (l.layout.rows - l.r) l.r (id_before l.layout.kind l.before) l.left (words_of l.words_left)) ≡ faults (rows_left l.layout l.layout.rows 0 None l.rows (words_of l.words));
}
