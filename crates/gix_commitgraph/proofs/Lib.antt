-- What most proofs use, to import from one place.
mod Common
-- The packed rows of a commit-graph.
pub mod Packed
