-- The trees that were met, in the order in which they are visited.
pub mod LevelQueue
-- What `breadthfirst` does with the entries of one tree.
pub mod ShowsEntry
-- What `depthfirst` does with the entries of a tree, up to the one that it enters.
pub mod ShowsBelow
-- The trees that `depthfirst` is in.
pub mod Stack
