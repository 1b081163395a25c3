pub mod Alike
pub mod Specialised
pub mod Trials
