pub mod BoundFacts
pub mod FilterFacts
pub mod GuardFacts
pub mod IndexFacts
pub mod InsertFacts
pub mod PortFacts
mod ScanFacts
pub mod SweepFacts
pub mod UpdateFacts
