-- Numbers in decimal digits.
pub mod Decimal
-- Records, and the objects that they are.
pub mod Records
-- The record at the front of a text, read from the left.
pub mod RecordFront
-- What was read of the bytes that a reader has.
pub mod Input
-- The objects of the records that a reader gives.
pub mod Reading
-- Records whose ids are the hashes of their objects.
pub mod NamedRecords
-- Named records whose ids a named store has.
pub mod NamedPart
pub mod Examples
