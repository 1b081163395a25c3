pub mod Asking
pub mod Codes
pub mod Forms
pub mod Reading
pub mod Spelling
pub mod Taking
