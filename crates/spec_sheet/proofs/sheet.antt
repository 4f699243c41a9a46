pub mod FaultLaws
pub mod SheetLaws
pub mod AnswerLaws
pub mod TotalLaws
pub mod Rows
