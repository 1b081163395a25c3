pub mod Buckets
pub mod Chains
pub mod Fitting
pub mod Hashing
pub mod TupleOrder
