use Rattle.std.proofs.Common.{◌≡◌, ◌-◌, ◌+◌, ◌*◌, ◌≤◌, ◌++◌, length}
use Rattle.gix_graph_file.proofs.Common.{id_len, rows_packed}
use Rattle.gix_graph_file.proofs.packing.push_rows.Given as goal

-- the rows that are left are there; what is written, and then these, is what there was, and then all rows
abbrev pub invariant-loop-row : goal.invariant-loop-row
invariant-loop-row l = record {
  ids : id_len l.fn.kind * (l.count - l._row) ≤ length l.ids_left;
  commits : id_len l.fn.kind * (l.count - l._row) + 16 * (l.count - l._row) ≤ length l.commits_left;
  written : l.out.items ++ rows_packed l.fn.kind l.rows (l.count - l._row) l.ids_left l.commits_left ≡ l.fn.out.items ++ rows_packed l.fn.kind l.rows l.count l.ids l.commits;
}
