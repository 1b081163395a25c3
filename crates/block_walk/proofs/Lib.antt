mod ChildFacts
pub mod DescentFacts
mod DueFacts
mod FetchedFacts
mod FindFacts
mod FittingFacts
mod KeptFacts
mod KnownFacts
pub mod LoopFacts
mod OrderFacts
mod OrderedFacts
mod ProbeOrder
mod PushedFacts
mod SameFacts
mod SievedFacts
mod StackFacts
mod StartFacts
pub mod SumFacts
mod VisitFacts
mod WalkFacts
mod WorldFacts
