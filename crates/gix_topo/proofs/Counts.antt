-- What a change at one id does to the table, and how much two searches have still to do.
pub mod Frontier
-- What a side does by meeting ids.
pub mod MeetsParents
-- What one search has found when little is left in its queue.
pub mod OneSearch
-- Each step keeps both searches as they are to be.
pub mod BothSearches
-- What steps and taking do to the indegrees, and what an indegree of 0 means.
pub mod Children
-- Exploring keeps the searches and the indegrees.
pub mod ExploreKeeps
-- Exploring ends: each step leaves less to do.
pub mod ExploreEnds
-- Where the greatest generation in the queue is below the depth, all of them are.
pub mod Rest
-- What exploring has found when it rests: all that is reached, down to the depth.
pub mod AllDownToDepth
-- Both searches meet their starts before anything is read.
pub mod MeetsStarts
-- What holds when counting has begun.
pub mod Begin
-- The number of expanded commits is exact down to the depth, and of all once the rows were dropped.
pub mod Expanded
-- What ids do to a walk of which some become ready.
pub mod MakesReady
-- What indegree 0 means after exploring: no child is left that wasn't taken.
pub mod IndegreeZero
-- Which commits were taken, by the table.
pub mod Taken
-- Rows are dropped only for a corrupt one, and a commit with a row is read from the store only then.
pub mod RowsDropped
-- When a fault of reading comes.
pub mod ReadFaults
