-- A history of which the parents of some commits aren't known, and what is right of it all the same.
pub mod Cut
