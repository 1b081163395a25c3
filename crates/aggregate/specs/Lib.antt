pub mod Grouping
pub mod Runs
