-- What a run promises that read a commit-graph by pages.
pub mod GraphPages
-- What a run promises of the files that it read by pages.
pub mod NamedBelow
-- What the bytes of pages say of the rows of their file.
pub mod PagedRows
-- A worked file of two rows, whose first page was read and whose second wasn't.
pub mod PagesExamples
-- A worked chain of two files.
pub mod ChainExample
-- Worked heads of files, which name those below them or don't.
pub mod NamedExamples
