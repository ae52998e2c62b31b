-- The first line of a tag.
pub mod TagLine
