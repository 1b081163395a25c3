pub mod Buckets
pub mod Hashing
pub mod Index
