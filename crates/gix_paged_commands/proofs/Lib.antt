-- What is known of the history of a file of which some rows were read.
pub mod CutHistory
-- Commits that a walk gives, each of which is above.
pub mod Drawing
-- What was decided over rows that were read by pages is right of each file that has these pages.
pub mod PagedAnswers
-- What a walk gave first is a beginning of the list.
pub mod FirstDrawn
