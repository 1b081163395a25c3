pub mod FieldFacts
pub mod FitFacts
pub mod HeaderFacts
pub mod RecordFacts
pub mod RowFacts
pub mod SlotFacts
