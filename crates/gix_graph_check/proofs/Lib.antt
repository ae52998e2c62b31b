pub mod Places
pub mod SoundRows
pub mod Marking
pub mod HeadRows
pub mod SoundExamples
pub mod Agreement
pub mod WholeCommits
