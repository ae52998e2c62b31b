-- What a writer that hashes has accepted.
pub mod Accepted
-- A certificate as JSON.
pub mod Written
