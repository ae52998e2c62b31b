-- What the steps of a revision lead to, by the texts of objects.
pub mod Leads
-- What words mean, by what their steps lead to.
pub mod Resolves
-- Worked examples of what steps lead to.
pub mod Examples
-- Revisions behind `--not`.
pub mod Opposite
