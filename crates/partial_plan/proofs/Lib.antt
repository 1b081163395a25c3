pub mod CoverFacts
pub mod ListFacts
pub mod NumberFacts
pub mod PlanFacts
pub mod PreparingFacts
pub mod ScanFacts
pub mod SharedFacts
