-- The delay that loses least.
pub mod Choice
