use Rattle.std.proofs.Common.{◌≡◌, ◌-◌}
use Rattle.gix_graph_file.proofs.Common.{is_table_from, table_len}
use Rattle.gix_graph_file.proofs.table.is_table.Given as goal

-- testing the entries that are left finds what testing all finds
abbrev pub invariant-loop-entry : goal.invariant-loop-entry
invariant-loop-entry l = is_table_from l.file l.end (l.count - l.entry) l.entry l.lower ≡ is_table_from l.file l.end l.count 0 (table_len l.count)
