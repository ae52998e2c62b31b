-- What the delegate of a survey holds, and what each call leaves of it.
pub mod Surveyor
