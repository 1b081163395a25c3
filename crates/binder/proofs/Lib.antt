pub mod AtOnceFacts
pub mod RowFacts
