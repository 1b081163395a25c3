pub mod GivenFacts
pub mod TakenFacts
