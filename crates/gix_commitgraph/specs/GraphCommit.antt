-- A commit of a graph: one of its rows.
use Rattle.std.specs.Prelude.{List}
use Rattle.gix_commitgraph.specs.declared.commit.Commit.{Commit}
use Rattle.gix_commitgraph.specs.Rows.{GraphRow, row_at}

-- the rows of the graph that a commit is of
abbrev pub rows_of_commit : Commit → List GraphRow
rows_of_commit commit = commit.graph.now

-- the commit's row
abbrev pub row_of_commit : Commit → GraphRow
row_of_commit commit = row_at commit.graph.now commit.position.0
