-- What a survey says.
pub mod Survey
-- The code's own steps. Nobody but a maintainer needs them.
pub mod Inside
