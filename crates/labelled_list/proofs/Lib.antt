pub mod Skips
pub mod LabelFacts
pub mod OrderFacts
pub mod KeyFacts
pub mod SpreadFacts
pub mod SearchFacts
