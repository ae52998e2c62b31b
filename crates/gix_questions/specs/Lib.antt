pub mod CommandWords
pub mod Common
pub mod Standing
pub mod Status
