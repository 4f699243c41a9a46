-- Laws of delays.
pub mod Chunks
pub mod ChoiceLaws
pub mod AnswerLaws
pub mod TheDelay
pub mod Order
