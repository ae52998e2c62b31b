-- Worked examples of ids: those that git prints. The prover computes the hashes.
pub mod ShortIds
pub mod LongIds
