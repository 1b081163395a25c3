pub mod NumberFacts
pub mod PruningFacts
pub mod TaskFacts
pub mod Turns
