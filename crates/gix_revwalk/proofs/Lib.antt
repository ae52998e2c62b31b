-- What most proofs use, to import from one place.
mod Common
-- The pairs that the items of a priority queue's heap are.
pub mod QueueItems
-- Lists by falling turn.
pub mod InTurn
-- The new ids of a list, each at its first place, and how many times an id is in a list.
pub mod NewIds
-- The ids that a row's places name, what a row with a fault is, which rows are in use after a row was read, and what drops them.
pub mod Rows
-- The row of an id, where it is looked for first.
pub mod NearRow
-- Lists in which each comes in its turn: what holds along them; where one at most comes next, there is one.
pub mod Beginnings
-- Lists that go on by a step that names one new id of finitely many.
pub mod Greedy
-- What a list has in which each is pending when it comes: exactly what is reached.
pub mod Orders
-- One id at most comes next in breadth order, and in each order by time.
pub mod OneOrder
-- Over finitely many ids there is a list in breadth order, and one in each order by time.
pub mod SomeOrder
-- A commit that reads whole gives the same parents by its items and by its row.
pub mod ReadsWhole
-- A commit that reads whole has the parents that its text names.
pub mod TextParents
-- What the next parent among a commit's items says of all its parents, and of its committer.
mod NextParents
-- What was drawn to its end, one answer after the other.
pub mod Drained
-- A fault of a committer is found exactly where no commit is read.
pub mod Committer
-- A committer is read exactly where a commit is read, with the commit's time.
pub mod CommitterTime
-- What is reached from ids that are reached.
pub mod Reached
-- Worked examples that take a proof.
pub mod Examples
