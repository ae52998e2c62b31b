-- How a search reads commits.
pub mod Reading
-- What painting marks, which rows it leaves, and when it fails.
pub mod Painting
-- The code's own steps. Nobody but a maintainer needs them.
pub mod Inside
