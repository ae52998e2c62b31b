-- The lines of entries.
pub mod Files
-- What is written, and what waits.
pub mod Output
-- Worked examples of the digits of a mode.
pub mod Examples
-- The code's own steps. Nobody but a maintainer needs them.
pub mod Inside
