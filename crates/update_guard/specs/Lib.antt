pub mod Filtering
pub mod Guarding
pub mod Indexing
pub mod Inserting
pub mod Making
pub mod Seen
pub mod Stored
