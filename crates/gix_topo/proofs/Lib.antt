-- Each of these uses only those above it.
-- What most proofs use, to import from one place.
mod Common
-- Commits read by rows and from the store.
pub mod Reading
-- The ready commits in their order.
pub mod Readiness
-- The two searches and the indegrees: lazy, and exact down to the depth.
pub mod Counts
-- How a walk is built from its tips and ends.
pub mod Starting
-- Whole runs, by the steps of `Next` alone: the theorem, its corollaries, and that a walk ends.
pub mod Run
-- The code's steps: a ready commit is taken and its parents are released.
pub mod Taking
-- Worked examples that take a proof.
pub mod Examples
