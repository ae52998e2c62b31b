-- What a line says, as JSON.
pub mod Json
-- What a terminal is given.
pub mod Terminal
-- What a writer of JSON has written.
pub mod Lines
-- Worked examples of both.
pub mod Examples
