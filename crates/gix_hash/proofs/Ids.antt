-- Whether an id is in a list.
pub mod Membership
-- The derived `==` holds exactly where two ids are the same.
pub mod Equality
-- A table of the ids of one length, and the map of all ids.
pub mod Tables
-- The set of the ids that have a value.
pub mod Sets
