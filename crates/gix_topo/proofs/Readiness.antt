-- Lists by rising time.
pub mod RisingTime
-- How taking a commit changes which commits are ready.
pub mod IsReady
-- Ready commits by their ids: those that are held, chosen, and joined.
pub mod ReadyIds
-- The ready commits as a queue by time or as a stack.
pub mod ReadySet
-- Over a finite history tests decide which commits are ready, and those made ready are computed.
pub mod Decided
