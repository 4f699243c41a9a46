-- Demand 3 of a whole text at once, and its limits.
pub mod Claims
pub mod Limits
