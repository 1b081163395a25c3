pub mod BoundSets
mod ConstantFacts
mod ExtendFacts
pub mod FrontFacts
mod GuidedStarts
pub mod HeldFacts
mod JoinFacts
mod KeyFacts
pub mod MatchFacts
pub mod MeetFacts
pub mod MergeFacts
pub mod PlaceFacts
pub mod ProbeFacts
pub mod RowFacts
pub mod SieveFacts
mod TableFacts
pub mod TreeFacts
