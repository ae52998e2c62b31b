-- The script of a walk from a place in a tree, step by step.
pub mod Script
-- The loop of `depthfirst`.
pub mod Loop
-- A walk seen by the trees that it is in.
pub mod Turns
-- An entry shown, and the tree entered behind it.
pub mod Descent
-- The trees that a walk is in.
pub mod Stack
