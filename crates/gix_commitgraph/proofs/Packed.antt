-- The entries of rows by rising id.
pub mod EntryOrder
-- Rows by rising id, and the numbers that follow from that.
pub mod Arrangement
-- Rows that are handed in, tested one after the other.
pub mod HandedRows
-- The row of an id, among rows by rising id.
pub mod RowSearch
-- The order of bytes by the first four of them.
pub mod FirstBytes
-- The fields of a packed row.
pub mod Fields
-- The overflow words that reading a row's parents leaves.
pub mod Parents
-- Parent words and overflow words are the words of the places that were read.
pub mod Takes
-- A row that is read is spelled as it was read.
pub mod RowTakes
-- The row of a number in packed bytes.
pub mod RowAt
-- Rows are read one after the other.
pub mod Steps
-- What is read is spelled so.
pub mod Read
-- Rows are written one after the other.
pub mod Writing
-- Whole packed bytes, and that the spelling of rows is read as these rows.
pub mod Whole
-- What is spelled is read again.
pub mod ReadAgain
-- Rows in another order, taken one after the other.
pub mod RowsArranged
