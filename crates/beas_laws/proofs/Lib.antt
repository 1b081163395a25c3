pub mod Clean
pub mod Leading
pub mod Lexicals
pub mod MoreConstraints
pub mod Printed
pub mod PrintedConditions
pub mod PrintedParts
pub mod PrintedQueries
pub mod PrintedStatements
pub mod Rereading
pub mod GroupFacts
mod ListFacts
mod CheckFacts
mod BinderFacts
mod StatementFacts
pub mod TurnFacts
pub mod FailureFacts
mod SteadyFacts
