pub mod Sound
pub mod SoundAnswers
pub mod Heads
pub mod HeadsReach
pub mod Marks
pub mod StoredCommits
pub mod Disagreeing
pub mod CheckExamples
