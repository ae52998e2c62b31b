-- The octal digits of a number, from the last one on.
mod Octal
-- Rows of digits.
mod DigitRows
-- Bytes that are put behind others, and bytes that are written.
mod Putting
-- The first lines of a list, one after another.
mod FirstLines
-- The names of the entries that a walk went into, and the parts of a line.
mod Names
-- What a walk has before it, where it stands.
mod Leaving
-- Paths by what is before their last names, and what a walk in depth has before it, by its script.
pub mod Scripts
