-- What is known of an id, by marks.
pub mod Known
-- What waits in the queue.
pub mod Waiting
-- The queue and the table of both searches.
pub mod Frontier
