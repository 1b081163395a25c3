pub mod IdFacts
pub mod Keeping
pub mod ListFacts
pub mod MayMake
pub mod RepeatFacts
pub mod StoredFacts
