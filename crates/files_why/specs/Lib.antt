-- The page that says why: its questions, and the number that it answers.
pub mod Question
pub mod Page
