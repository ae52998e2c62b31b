-- What a topological walk gives, and when a commit is ready.
pub mod WalkSet
-- No parent before its children; of the ready commits one of greatest time comes next.
pub mod DateOrder
-- No parent before its children; the commit that became ready last comes next.
pub mod TopoOrder
-- Generations, and how far down indegrees are counted.
pub mod Depth
-- How a topological walk reads a commit: by its row as long as rows are in use, or else from the store.
pub mod Reading
-- What the walk holds, how it is built, and one step of it.
pub mod Walk
-- Which fault of the walk a fault of a look-up is.
pub mod Errors
-- The words of the laws over whole runs.
pub mod Laws
-- The statements of the laws.
pub mod Statements
-- The code's own steps. Nobody but a maintainer needs them.
pub mod Inside
