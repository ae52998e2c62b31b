-- The code's own steps. Nobody but a maintainer needs them.
pub mod Inside
