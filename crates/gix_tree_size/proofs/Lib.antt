-- Which tree has the first name that is none, in the order of visits.
pub mod Names
-- How large a tree is that holds itself nowhere, and its walk wherever it is met.
pub mod Sized
-- What a survey has seen wherever its walk is, and the walk of a recorder that goes into each tree.
pub mod Surveyed
