pub mod Contents
pub mod Counts
pub mod Parts
pub mod Room
pub mod Seen
