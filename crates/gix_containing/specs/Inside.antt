-- What the parts of a call do.
pub mod Steps
