pub mod Database
pub mod Kept
pub mod Queries
pub mod Refusing
pub mod Schema
pub mod Stored
