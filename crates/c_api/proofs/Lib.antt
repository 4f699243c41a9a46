-- Laws of the C functions.
pub mod Judgement
pub mod Call
pub mod Mapped
pub mod Reason
pub mod MapTexts
pub mod Counts
pub mod Shift
