-- What it is good for that a file was compared with the commits.
pub mod Checked
-- What it is good for that each file was.
pub mod Passed
