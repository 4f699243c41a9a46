-- Laws of times known only roughly.
pub mod Wider
pub mod Meaning
pub mod Answers
pub mod Rows
