pub mod Fronts
pub mod Reading
pub mod Outcome
pub mod Alone
