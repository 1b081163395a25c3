pub mod Demo
pub mod Draws
pub mod Summaries
