-- Ids: when two are the same, whether one is in a list, and sets and maps of them.
pub mod Ids
-- Hex digits, sixteen at a time.
pub mod HexDigits
-- Facts on lists of anything.
pub mod Lists
