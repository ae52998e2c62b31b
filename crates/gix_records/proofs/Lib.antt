-- Numbers in decimal digits.
mod DecimalFacts
-- The hex digits of ids.
mod HexFacts
-- A text split at the first of a byte.
mod SplitFacts
-- Records read from the left, and the grammar of records.
pub mod RecordFacts
-- What a reader's bytes were read as.
pub mod ReadingFacts
-- Records whose ids are compared with those that their objects have.
pub mod Naming
-- Named records whose ids a named store has.
mod WithinNamed
