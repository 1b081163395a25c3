pub mod ByteKinds
pub mod Doubling
pub mod FirstPiece
pub mod Leads
pub mod Parts
pub mod Quotes
pub mod Spans
pub mod Steps
