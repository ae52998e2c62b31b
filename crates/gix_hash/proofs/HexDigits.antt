-- What sixteen lanes compute, lane by lane.
pub mod Lanes
-- Bytes that are spelled, and what the whole digits decode to.
pub mod Spelled
