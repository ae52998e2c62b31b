-- Clocks that are off UTC.
pub mod Clocks
-- Lists of which nothing is left.
pub mod Empty
-- The first empty line of a text.
pub mod EmptyLine
-- What is before the first such byte of a text, and what is behind it.
pub mod FirstByte
-- Where the first line of a text ends.
pub mod FirstLine
-- White space at the end of a line.
pub mod LineEnds
-- What the text that is left adds to a subject.
pub mod LinesLeft
-- What the bytes that are left add in lower case.
pub mod Lower
-- The month of a day.
pub mod Months
-- What the parents that are left add.
pub mod ParentsLeft
-- The year of a day.
pub mod Years
-- Numbers in digits.
pub mod Digits
-- A date and a time in three parts.
pub mod Dates
-- What each field says.
pub mod Fields
-- What the rest of a format says, by its first byte.
pub mod Rests
