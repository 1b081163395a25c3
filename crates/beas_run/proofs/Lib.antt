mod AnswerFacts
mod CompleteFacts
mod DemoFacts
pub mod DoneFacts
mod FoundFacts
mod LeftFacts
mod NoSessionFacts
pub mod ReachedFacts
mod ReadingFacts
mod ReadsFacts
mod SaidFacts
mod SayingFacts
mod ShareFacts
mod SourceFacts
mod SourcelessFacts
mod SparedFacts
mod TieFacts
mod TurnFacts
mod UnmarkedFacts
mod UnnamedFacts
pub mod WalkFacts
