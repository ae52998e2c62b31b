-- Which commits are contained in others, and why this isn't known.
pub mod Contained
-- The statements of the laws.
pub mod Laws
-- What the search holds and does.
pub mod Inside
