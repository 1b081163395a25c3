pub mod NormalFacts
