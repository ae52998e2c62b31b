-- To meet ids one by one is to meet them all.
pub mod Meeting
-- The ids that are asked about.
pub mod Asking
-- What holds while the search goes on.
pub mod Holding
-- What the search tells in the end, and why it fails.
pub mod Deciding
-- The ids that were met are those that tips reach.
pub mod Marked
-- Of one history there is one answer.
pub mod OneAnswer
-- Where all that is reached reads whole, no commit is a fault.
pub mod Faultless
