-- The commit of a call, as the definitions of formats have it.
pub mod Page
-- Parts of what a format writes, by names that stay closed.
pub mod Pieces
