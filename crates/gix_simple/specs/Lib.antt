-- What the walk holds, and one step of it.
pub mod Walk
-- What the builder calls change.
pub mod Building
-- Which fault of the walk a fault of a look-up is.
pub mod Errors
-- The words of the laws over whole runs.
pub mod Laws
-- What holds along the answers that are drawn, and of two walks that were built alike.
pub mod Runs
-- The statements of the laws.
pub mod Statements
-- The code's own steps. Nobody but a maintainer needs them.
pub mod Inside
