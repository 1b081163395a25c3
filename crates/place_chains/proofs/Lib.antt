pub mod FittingFacts
pub mod HashFacts
mod Linking
pub mod OrderFacts
mod Search
