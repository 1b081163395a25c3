mod Alone
pub mod StoreFacts
