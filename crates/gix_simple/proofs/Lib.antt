-- What most proofs use, to import from one place.
mod Common
-- What a new walk holds that was made of some tips.
pub mod MadeOfTips
-- How `sorting` reads the pending tips, and which ones a cutoff takes out.
pub mod TipsByTime
-- After the builder calls a walk is fresh.
pub mod Builders
-- How the code treats each id of a list: hidden, seen, asked, pending.
pub mod TreatsId
-- What treating the parents of a commit changes in the machine of the walk.
pub mod Treated
-- How the code takes a commit: by its row, or from the store.
pub mod TakesCommit
-- What a step of a walk does, whatever faults come.
pub mod Moves
-- Treating parents neither reads nor changes the lent text and the hidden tips.
pub mod LentText
-- How the first step hides what hidden tips reach.
pub mod FirstStep
-- Behind the first step hidden tips change nothing.
pub mod LateTips
-- The keys of pending commits in an order by time.
pub mod TimeKeys
-- What is pending, in the words of the definitions of the orders.
pub mod PendingIs
-- One step of a walk after its painting.
pub mod OneStep
-- A walk drawn to its end gives what the definitions say.
pub mod WholeWalk
-- The first step, which paints, and the theorem over a whole walk.
pub mod Theorem
-- The theorem for a new walk, breadth first.
pub mod FromTips
-- Each answer lowers the number of answers that are left.
pub mod Ends
-- No id is given twice, whatever the store, the rows and the predicate do.
pub mod NeverTwice
-- No id is asked about twice.
pub mod AsksOnce
-- Which generations are given.
pub mod Generations
-- Walks that were built by the same calls.
pub mod Alike
-- Laws that follow from the theorem: hiding, rows that agree, falling times.
pub mod Corollaries
-- A walk without hidden tips, none of whose answers is a fault, gives the commits in order by the parents that texts name.
pub mod Faultless
-- A walk without a cutoff gives what its tips reach and its hidden tips don't.
pub mod Difference
-- Over a finite history a test of what is reached exists.
pub mod ReachDecided
