-- The work that is left, as a number.
pub mod Measure
-- Each turn leaves less work.
pub mod Loops
