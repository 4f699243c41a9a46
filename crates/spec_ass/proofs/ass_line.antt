pub mod TellLaws
pub mod SayLaws
pub mod LineFits
pub mod LineFine
pub mod LineRows
