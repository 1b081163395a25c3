pub mod SessionFacts
pub mod SayingFacts
