pub mod NamedFacts
pub mod Tokens
