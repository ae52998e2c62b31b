-- What is at the front of bytes: a word, a line of text, an id in hex.
pub mod Lines
-- The first newline among 64 bytes.
pub mod Newline
-- The items from a place on: the front of what is left, and then the items behind it.
pub mod Items
-- The items that an iterator has left.
pub mod ItemsLeft
-- What is left behind each line that is taken.
pub mod Taken
-- Reading gives exactly the texts of commits.
pub mod Texts
-- The seconds of a signature.
pub mod Seconds
