pub mod Slots
pub mod Fields
pub mod Listed
