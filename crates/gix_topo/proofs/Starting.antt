-- Ids one after the other: which of them become ready, and in which order.
pub mod OneByOne
-- A tip without children becomes ready.
pub mod OneTip
-- What holds of a walk that was just built, and when one can't be.
pub mod Started
