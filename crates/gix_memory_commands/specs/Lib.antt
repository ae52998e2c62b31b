-- The words in a text.
pub mod WordsOf
-- What is written of words that name no tip.
pub mod Nothing
-- What a caller finds in its room for lines.
pub mod Room
-- What a call answers, and what it leaves in the room.
pub mod Answers
-- What a caller finds in its slices for commits.
pub mod BatchSlices
-- What a call for a batch of commits over records answers.
pub mod BatchAnswers
-- The same over a repository in memory.
pub mod FolderAnswers
-- How the code finds that words name no tip.
pub mod Inside
pub mod Examples
