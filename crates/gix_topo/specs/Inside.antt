-- How both searches go on.
pub mod Exploring
-- What both searches have seen and done.
pub mod Searched
-- What commits are read from.
pub mod Reader
-- How ready commits are held.
pub mod ReadySet
-- How the parents of a taken commit become ready.
pub mod Releasing
-- How a walk starts.
pub mod Starting
-- The invariant between two calls.
pub mod Steady
