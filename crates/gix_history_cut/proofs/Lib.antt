-- A history of which the parents of some commits aren't known, and what is right of it all the same.
-- Two histories in which the same is shown have the same lists.
pub mod AlikeSides
-- What comes next is one.
pub mod NextOnce
-- What is known of a history, and what is below a line.
pub mod BelowLine
-- A list that a limit cuts off before anything below a line is met.
pub mod AboveLimit
-- What is right of what is known is right of all.
pub mod CutCarried
