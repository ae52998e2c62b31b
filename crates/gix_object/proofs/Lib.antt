-- The objects of a store in memory.
pub mod MemoryStore
-- The items of a commit, and its text.
pub mod Commits
-- The entries of a tree.
pub mod TreeText
-- The first of some bytes that passes a test, by the bits of those that do.
mod FirstByLanes
