-- What shows that an answer doesn't hang on rows that weren't read.
pub mod Decided
