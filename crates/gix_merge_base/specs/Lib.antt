-- What the best common ancestors are.
pub mod Bases
-- Which error a fault of a walk is.
pub mod Errors
-- The code's own steps. Nobody but a maintainer needs them.
pub mod Inside
-- The statements of the laws.
pub mod Laws
