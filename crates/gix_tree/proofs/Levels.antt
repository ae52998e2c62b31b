-- What is to be done, as a queue.
pub mod Queue
-- The script of a walk from a queue of trees, step by step.
pub mod Script
-- The trees that the walk has met, each with the trees above it.
pub mod Met
-- The loop of `breadthfirst`.
pub mod Loop
