-- The visits of a walk by levels are in level order.
pub mod Order
-- The call of each visit is one of the calls that were made.
pub mod Called
-- Where each tree that the visits go into reads whole and doesn't hold itself, a walk fails only for memory.
pub mod Met
-- The trees that a delegate may go into are such trees, where all that it may reach are.
pub mod Sound
-- A walk ends at a `Break`, and nowhere else.
pub mod Breaks
-- Both walks show the same entries.
pub mod SameRecords
-- Which walks the laws' premises let in, worked.
pub mod Examples
-- The laws, from what the contracts say.
pub mod Laws
