pub mod Joins
pub mod ListSteps
pub mod SetLengths
