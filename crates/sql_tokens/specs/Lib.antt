pub mod Cuts
pub mod Pieces
pub mod Spans
pub mod Tokens
