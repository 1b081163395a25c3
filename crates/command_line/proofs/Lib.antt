pub mod Decimals
pub mod Parsed
