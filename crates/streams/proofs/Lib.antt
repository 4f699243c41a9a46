pub mod DigitLaws
mod DigitRows
pub mod LeftLaws
