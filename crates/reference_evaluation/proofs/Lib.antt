pub mod KeyFacts
pub mod ListSteps
pub mod StepFacts
pub mod Ways
