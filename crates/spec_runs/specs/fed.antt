-- What is told of a caption alone, held against what a session was fed.
pub mod Judgement
pub mod Reason
