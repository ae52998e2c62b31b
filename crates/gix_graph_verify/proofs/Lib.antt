pub mod Telling
pub mod Gathering
pub mod Reports
pub mod Comparing
