pub mod LiveFacts
pub mod PlanFacts
pub mod RecordsAreText
pub mod ReportFacts
pub mod WriterFacts
