-- A parent loses a child, and becomes ready where that was the last one.
pub mod OneRelease
-- What releasing all parents of a taken commit does.
pub mod AllReleases
-- A steady walk adds exactly the parents that became ready, and its invariant and its counting hold after a commit was taken.
pub mod InvariantKept
-- When a ready commit can't be taken.
pub mod TakingFaults
-- One call of `next`: commits are taken until one is given.
pub mod TakeNext
