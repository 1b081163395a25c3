pub mod Desks
pub mod Coding
pub mod Stored
pub mod Events
pub mod Held
pub mod Turns
