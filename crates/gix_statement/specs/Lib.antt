-- What a format writes of a commit.
pub mod Formats
-- What a run has done, from lists of bytes up.
pub mod WholeStatement
-- Which rows the files of a commit-graph have.
pub mod CommitGraph
