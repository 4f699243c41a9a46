pub mod WrittenLaws
pub mod EscapeLaws
pub mod LayoutLaws
pub mod AnswerLaws
