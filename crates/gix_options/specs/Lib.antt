pub mod AskedWords
pub mod Flags
pub mod Names
pub mod OptionWords
pub mod Values
