-- One more mark on an id.
pub mod OneMoreMark
-- What is known of an id by a change of the table, and by two of them.
pub mod TableChanges
-- Facts on results.
pub mod Results
