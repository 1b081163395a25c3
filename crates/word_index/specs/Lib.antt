pub mod Freezing
pub mod Parts
pub mod Stored
pub mod Kept
pub mod Widths
