pub mod RowText
pub mod WithRows
pub mod Laws
pub mod StoredRows
pub mod Saying
pub mod StoreExamples
