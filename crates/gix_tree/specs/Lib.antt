-- Trees breadth first.
pub mod LevelOrder
-- Trees depth first.
pub mod Preorder
-- The calls on a delegate.
pub mod Delegate
-- A visit of an entry: its place, the answer, and what follows.
pub mod Visits
-- The path of a visit in the unfolded tree.
pub mod Paths
-- The calls around the visits, and how the walk ends.
pub mod Script
-- What a store says of trees, and what both walks answer.
pub mod Walk
-- Which fault of the walk a fault of a look-up is.
pub mod Errors
-- A bound on the steps that are left.
pub mod Measure
-- What a recorder holds, and what each call leaves of it.
pub mod Recorder
-- A recorder and what it tracks.
pub mod Tracked
-- The words of the laws.
pub mod Laws
-- Worked examples.
pub mod Examples
-- The code's own steps. Nobody but a maintainer needs them.
pub mod Inside
