-- What most proofs use, to import from one place.
mod Common
-- Entries of a table of chunks.
pub mod Entries
-- Rows written one after the other.
pub mod Written
-- A file's rows, packed by halves.
pub mod HalfRows
-- The parents that words say, in the file and in packed bytes.
pub mod SameParents
-- The fields of a row, in the file and in packed bytes.
pub mod SameFields
-- The rows, in the file and in packed bytes.
pub mod SameRows
-- Whole files and whole packed bytes.
pub mod SameFile
-- Parents that are read one after the other.
pub mod ChainParents
-- Rows of a layer that are read one after the other.
pub mod ChainRows
-- Layers that are read one after the other.
pub mod ChainLayers
-- The rows of a chain are of one kind, and name rows of the chain.
pub mod ChainWithin
-- A chain of one file is the file, where it says no layers below it; and a graph has the rows that it has.
pub mod ChainOfOne
