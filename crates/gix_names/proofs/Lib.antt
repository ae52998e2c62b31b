-- What is hashed, piece by piece.
mod Pieces
-- Objects of one name.
pub mod Agree
-- Worked examples of ids.
pub mod Examples
