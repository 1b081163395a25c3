pub mod Lengths
pub mod Rows
pub mod States
pub mod Totals
pub mod Written
