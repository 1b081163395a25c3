mod Digits
pub mod Numbered
pub mod ScopeFacts
pub mod AliasFacts
pub mod FewFacts
pub mod FirstFacts
pub mod FlawFacts
pub mod LookedUpFacts
pub mod PartFacts
pub mod JoinedFacts
pub mod Ranges
pub mod BindFacts
pub mod DeleteFacts
pub mod WellFormed
pub mod OverTables
pub mod SpelledTrees
