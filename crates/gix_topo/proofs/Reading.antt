-- What reading a commit says of the ids that rows and texts name, and of its parents.
pub mod ReadsCommit
-- Where all that is walked reads whole, the walk gives the same by the texts.
pub mod WholeTexts
-- What is known of a ready commit is what the store has.
pub mod FoundIsStored
-- A text without a fault up to its committer has none before it.
pub mod Faultless
-- Why a reading fails. What was read once is known, and as long as the rows are in use its row has no fault.
pub mod OnceRead
-- What is kept of a commit is its header.
pub mod KeptHeaders
