pub mod Hashing
pub mod Kept
pub mod Labels
pub mod Spreads
