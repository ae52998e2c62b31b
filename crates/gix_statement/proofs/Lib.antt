-- Hex digits.
pub mod WrittenHex
-- Texts are read in one way, and a history exists.
pub mod OneCommit
pub mod HaveHistory
-- What is right of some objects is right of all that have them.
mod Carried
-- From one history to each: lists that aren't topological, options and limits, topological lists, commands.
pub mod Heart
pub mod EachHistory
pub mod Descents
pub mod SameLines
pub mod InEach
-- One answer: of one history, of one input, of the files of a commit-graph, and from end to end.
pub mod OneAnswer
pub mod FedOnce
pub mod LayersOnce
pub mod OneOutput
pub mod LinesOnce
mod NamedClash
-- Worked examples, and attacks that are refused.
pub mod Tests
mod OrderExamples
mod RunExamples
mod LineExamples
mod EntryExamples
mod SubjectExamples
mod FormatExamples
mod GraphExamples
mod HoleExamples
mod SinceExample
mod FirstParentExamples
mod Refused
mod AttackExamples
mod WrongRuns
