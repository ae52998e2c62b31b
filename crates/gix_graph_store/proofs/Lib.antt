-- The lines of a text, written one after the other.
pub mod Lines
-- What a store with rows has at an id.
pub mod ToldObjects
-- The seconds that are written are those that are read.
pub mod Seconds
-- The text that a row writes is read as the commit that the row says.
pub mod Texts
-- Sound rows, and stores that agree with rows.
pub mod SoundRows
-- A worked store.
pub mod StoredExample
-- Rows that say what is stored.
pub mod StoredCommits
