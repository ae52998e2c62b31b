use Rattle.std.proofs.Common.{◌≡◌, ◌-◌, ◌+◌, ◌*◌, ◌≤◌, length}
use Rattle.gix_graph_file.proofs.Common.{id_len, words_of, rows_seen, rows_from, seen, layer_rows, prepended}
use Rattle.gix_graph_file.proofs.chain.push_rows.Given as goal

-- the rows that are left are there; the rows that are read, and then these, are those that there were, and then all
abbrev pub invariant-loop-r : goal.invariant-loop-r
invariant-loop-r l = record {
  ids : id_len l.layout.kind * (l.layout.rows - l.r) ≤ length l.ids;
  commits : id_len l.layout.kind * (l.layout.rows - l.r) + 16 * (l.layout.rows - l.r) ≤ length l.commits;
  read : prepended (rows_seen l.out.items) (rows_from l.layout.kind l.limit (length (words_of l.layout.edges.now)) (l.layout.rows - l.r) l.r l.before l.ids l.commits (words_of l.edges)) ≡ prepended (rows_seen l.fn.out.items) (layer_rows l.limit (seen l.layout));
}
