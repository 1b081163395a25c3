pub mod Announced
pub mod AccessById
