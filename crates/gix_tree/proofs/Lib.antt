-- What most proofs use, to import from one place.
mod Common
-- What holds of all of a list holds of its parts.
pub mod All
-- Trees with their places, seen by their ids alone.
pub mod Places
-- What each outcome of a visit says.
pub mod Outcomes
-- An entry that a walk shows its delegate, by the calls that were made.
pub mod Shown
-- What the loops of both walks keep.
pub mod SoFar
-- The walk breadth first.
pub mod Levels
-- The walk depth first.
pub mod Depth
-- Both walks as one, over a list of tasks.
pub mod TaskWalk
-- The recorder as a delegate.
pub mod Recording
-- Why the walks end.
pub mod Work
-- The laws of both walks.
pub mod Theorems
