pub mod Id
pub mod HexDigits
-- What ids reach by a step to the next ids.
pub mod Reach
-- What a keyed hasher computes.
pub mod Keyed
-- What a change of one value makes of a map.
pub mod Changes
-- What two tables of ids hold together.
pub mod Tables
