-- What it is good for that the files of a commit-graph were compared with the commits.
-- Lines that were written over pages of such files are right of objects alone.
pub mod AnswersCarried
-- The lowest files of a chain have the first of its rows.
pub mod LowestFiles
-- Files in which no difference was found have rows in order and sound, which texts of objects say.
pub mod FilesChecked
-- The same where no file has passed before.
pub mod FromNothing
-- A file ends with its hash where its last chunk ends.
pub mod FileEnds
-- Files that passed one by one, and that name those below them, passed together.
pub mod PassedTogether
-- A worked file of one row, and its commit under the id that git prints.
mod OneRow
-- A worked chain of two files, above that one a file whose commit has the other as its parent.
mod TwoLayers
