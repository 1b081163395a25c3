pub mod Calls
pub mod Columns
pub mod Given
pub mod Limits
pub mod Seats
pub mod Statuses
pub mod Telling
