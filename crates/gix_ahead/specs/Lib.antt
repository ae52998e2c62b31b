-- How many commits one commit reaches and another doesn't, and why this isn't known.
pub mod Ahead
-- The statements of the laws.
pub mod Laws
-- What the search and the walks do.
pub mod Inside
