-- What a recorder holds after a walk.
pub mod Records
-- What each call leaves of a recorder.
pub mod Calls
