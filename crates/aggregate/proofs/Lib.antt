pub mod GroupFacts
pub mod RunFacts
