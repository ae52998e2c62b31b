-- To meet ids one by one is to meet them all.
pub mod Meeting
-- What holds while the search goes on, and what it marks in the end.
pub mod Marking
-- Ids that are counted.
pub mod Counting
-- What a walk gives that is drawn to its end.
pub mod Drawn
-- The whole call.
pub mod Whole
-- The numbers of a history of which the store has a part.
pub mod Histories
