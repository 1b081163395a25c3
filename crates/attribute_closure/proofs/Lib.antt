pub mod Closing
pub mod Counting
pub mod Listed
mod SameColumns
mod Searches
pub mod Sets
mod Waiting
