pub mod Nesting
pub mod Same
