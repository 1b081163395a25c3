pub mod Plans
pub mod Records
pub mod Reports
pub mod Texts
