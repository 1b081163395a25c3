pub mod Counts
pub mod Tasks
pub mod Turns
