pub mod Few
pub mod Joined
