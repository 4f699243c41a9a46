-- Laws of the reasons.
pub mod CauseLaws
pub mod Answers
pub mod Named
pub mod Truth
pub mod Rows
pub mod CauseRows
