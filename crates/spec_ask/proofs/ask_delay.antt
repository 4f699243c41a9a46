-- Laws of delays.
pub mod Signed
pub mod Floor
pub mod Best
pub mod PaintLaws
pub mod WindowLaws
pub mod LookUp
pub mod NearLaws
pub mod TallyLaws
pub mod SavingLaws
pub mod Rows
pub mod Limits
pub mod AnswerRows
