-- What the search holds and does.
pub mod Search
