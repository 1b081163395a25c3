pub mod Offsets
pub mod Numbered
pub mod Joined
pub mod Used
