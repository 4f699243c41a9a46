pub mod LineLaws
pub mod LineRows
