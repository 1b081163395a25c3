pub mod GreatestFacts
pub mod PairFacts
pub mod RunFacts
