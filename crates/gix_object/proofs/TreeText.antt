-- An entry at the front of a tree's bytes, and the entries behind it.
pub mod Entries
-- The ends of lists of bytes.
pub mod Ends
