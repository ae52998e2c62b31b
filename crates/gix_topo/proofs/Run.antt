-- A list in which each commit is ready at its place: no id twice, children first, all of the set.
pub mod ReadyInTurn
-- Parents and members that are said in two ways which agree give the same orders.
pub mod SameOrder
-- What a list in either order has, whatever says the parents.
pub mod EachOnce
-- Each order has a list.
pub mod SomeList
-- What a walk does while it is drawn, one commit after the other.
pub mod Draws
-- Every walk ends, asks about each commit once, and gives nothing after a fault.
pub mod Ends
-- A whole walk takes what the definitions say, in their order: by the texts, and, over a sound history, by the store.
pub mod Theorem
-- Laws that follow from the order alone, and what a walk through all parents gives.
pub mod Corollaries
-- With agreeing rows each commit is given with its row's generation; each of its parents was known.
pub mod EachGiven
