-- Members of lists of ids that are made of others.
pub mod Members
-- Ids that are new are collected.
pub mod NewAmong
-- The best of first common ancestors.
pub mod BestOfFirst
-- What a walk gave and named has first common ancestors.
pub mod FirstCommon
-- What holds along the walk.
pub mod Walked
-- What is gathered along a walk.
pub mod Gathering
-- How the parents of commits are read.
pub mod Reading
-- How the walk starts, and what its commits and its faults say.
pub mod Starting
-- The whole call.
pub mod Whole
-- Each common ancestor is reached by a best one.
pub mod Tops
-- The bases of a history of which the store has a part.
pub mod Histories
-- Sorted ids rise, and lists that rise are the same by their members.
pub mod Rising
