-- How the children of commits are gathered.
pub mod Gathered
-- The search from a commit to all that is above it.
pub mod Climbing
-- What is marked reaches the target, and how reaching is told.
pub mod Reaching
-- The answer, and why there is none.
pub mod Answered
-- The answer of a history of which the store has a part.
pub mod Histories
