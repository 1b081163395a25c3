pub mod Courses
pub mod Fetching
pub mod Operations
pub mod Turns
