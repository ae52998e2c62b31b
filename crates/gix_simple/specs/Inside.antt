-- The parts of one step.
pub mod Steps
-- How pending commits are held, and which comes next.
pub mod PendingQueue
