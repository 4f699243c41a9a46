-- Each sample named once.
pub mod Once
