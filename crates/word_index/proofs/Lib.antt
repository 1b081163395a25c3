mod PartFacts
mod PlaceFacts
pub mod KeptFacts
pub mod ProbeFacts
mod RowFacts
mod UnknownFacts
