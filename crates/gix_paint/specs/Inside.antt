-- What painting holds while it goes on.
pub mod Queue
pub mod Painter
