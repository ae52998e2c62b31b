pub mod Appended
pub mod ReadIds
pub mod ReadNumbers
pub mod ReadOptions
pub mod ReadRequests
pub mod ReadShown
