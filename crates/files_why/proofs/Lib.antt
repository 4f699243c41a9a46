-- Laws of the page.
pub mod QuestionLaws
pub mod PageLaws
