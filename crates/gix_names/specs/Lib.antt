-- The id that an object has: the hash of its kind and its bytes.
pub mod Named
-- Worked examples of what is hashed.
pub mod Examples
