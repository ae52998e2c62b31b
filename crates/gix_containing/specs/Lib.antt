-- Which tips contain a commit.
pub mod Containing
-- The code's own steps. Nobody but a maintainer needs them.
pub mod Inside
-- The statements of the laws.
pub mod Laws
