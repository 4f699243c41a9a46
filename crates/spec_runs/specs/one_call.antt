-- A whole text retimed at once.
pub mod Text
pub mod Ran
