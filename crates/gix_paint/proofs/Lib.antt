-- What most proofs use, to import from one place.
mod Common
-- Generations fall from a commit to its parents.
pub mod Search
-- How a commit is read: by its row, or whole from the store.
pub mod Reading
-- What is put into the queue, and what comes first of it.
pub mod Waits
-- What one more mark makes of an id.
pub mod OneMoreMark
-- Meeting the ids of a list one by one meets all of them.
pub mod Meets
-- What holds while hidden tips are painted.
pub mod Invariant
-- What holds before an entry's turn, and why its row may drop the rows.
pub mod BeforeTurn
-- A turn: an entry is taken, its commit is read, its parents are met.
pub mod Turn
-- Nothing that waits is above what was taken, and rows that were read had no fault.
pub mod Order
-- At the stop, early or not, the marks are whole.
pub mod MarksAreWhole
-- Why painting fails.
pub mod Faults
-- Each turn leaves less room for entries.
pub mod Ends
