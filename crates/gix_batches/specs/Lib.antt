-- What a caller's slices hold of commits.
pub mod Slices
-- How slices are filled from a walk.
pub mod Draws
-- Which walks fill the slices.
pub mod Walks
-- What a batch is, by the page.
pub mod Batches
-- Why a batch fails.
pub mod Failing
-- Batches one behind another.
pub mod InRow
