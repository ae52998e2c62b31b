-- What revisions stand for, so far.
pub mod Standing
-- The common ancestors of pairs, so far.
pub mod CommonSoFar
