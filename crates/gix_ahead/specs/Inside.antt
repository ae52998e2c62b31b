-- What the search holds, marks and counts.
pub mod Search
-- What the walks give.
pub mod Walks
