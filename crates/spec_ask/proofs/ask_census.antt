-- Laws of the count of starts.
pub mod Rising
pub mod Starts
pub mod Turns
pub mod Answers
pub mod TheCensus
pub mod Rows
pub mod Limits
