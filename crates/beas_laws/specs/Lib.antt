pub mod Kept
pub mod Spelled
pub mod Unreadable
pub mod Loads
