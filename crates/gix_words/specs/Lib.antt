pub mod Faults
pub mod Formats
pub mod Printed
pub mod Words
pub mod Writable
pub mod Examples
