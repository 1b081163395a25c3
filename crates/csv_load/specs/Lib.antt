pub mod CsvRows
pub mod Fields
pub mod Layouts
pub mod Reading
