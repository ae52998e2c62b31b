-- What it means that files are verified.
pub mod Verified
-- What a store finds at an id.
pub mod Named
-- What differs between a row and its commit.
pub mod Differences
-- What a report says.
pub mod Reporting
