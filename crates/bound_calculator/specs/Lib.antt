pub mod DerivationSizes
pub mod QuerySizes
