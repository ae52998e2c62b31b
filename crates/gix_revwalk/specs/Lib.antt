-- A commit that was met, and is to be taken.
pub mod Pending
-- Lists of ids.
pub mod Ids
-- The parents that the texts of commits name.
pub mod Texts
pub mod PriorityQueue
-- Values in the order in which they were put in, and which of them comes next.
pub mod Turns
-- Parents and times of stored commits, and what reading whole means.
pub mod Commits
-- When a commit-graph agrees with a store, and when a row is corrupt.
pub mod Agreeing
-- The parents that rows name, and what is left of rows of which one is corrupt.
pub mod RowParents
-- How a commit is read: by its row, or else from the store.
pub mod Reading
-- A commit, as a walk gives it.
pub mod Infos
-- What a predicate is asked, and what it becomes by it.
pub mod Asking
-- How a call takes the ids that an iterator yields.
pub mod Tips
-- A commit from the store or from a commit-graph.
pub mod Either
-- Lists in which each comes in its turn.
pub mod ListsByTurn
-- What was named first comes first.
pub mod BreadthOrder
-- Of what is met always one of best time comes next.
pub mod TimeOrder
-- Worked examples.
pub mod Examples
