-- Parts of a list of bytes.
pub mod Takes
-- What the pages of a file are.
pub mod PageBytes
-- The chunk that a reader finds by its letters.
pub mod ChunkFound
-- The rows of a file whose pages were read, by its bytes.
pub mod ReadRows
-- A file names those below it.
pub mod BelowNamed
-- Where no row has an id.
pub mod IdsBetween
-- The parents of a graph's row, and those of the file's.
pub mod ParentPlaces
-- Sound layers have the rows that the page CommitGraph says.
pub mod SameLayers
