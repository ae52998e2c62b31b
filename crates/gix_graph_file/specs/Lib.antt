pub mod FileTable
pub mod FileRows
pub mod Chain
pub mod Trailer
pub mod PackedParts
pub mod Halves
pub mod ChainSteps
pub mod FileExamples
