use Rattle.std.proofs.Common.{◌≡◌, ℕ, ◌-◌, true}
use Rattle.gix_graph_file.proofs.Common.{is_table_from, chunk_from, name_of}
use Rattle.gix_graph_file.proofs.table.piece_of.Given as goal

-- the entries that are left are as they should be, and searching on finds what searching all finds
abbrev pub invariant-loop-entry : goal.invariant-loop-entry
invariant-loop-entry l = record {
  table : (lower : ℕ) × (is_table_from l.file l.end (l.count - l.entry) l.entry lower ≡ true);
  same : chunk_from l.file (name_of l.chunk) (l.count - l.entry) l.entry ≡ chunk_from l.file (name_of l.chunk) l.count 0;
}
