pub mod ScanPlans
pub mod Scans
