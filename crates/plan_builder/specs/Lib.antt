pub mod Candidates
pub mod Choices
pub mod Fronts
pub mod Own
pub mod Parts
pub mod Plans
pub mod Preparation
pub mod Trials
