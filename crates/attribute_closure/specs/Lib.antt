pub mod Keys
pub mod Uses
