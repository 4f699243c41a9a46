-- The example of document 01, and its table over the map of the example's bytes.
pub mod Example
pub mod Table
pub mod Blocks
pub mod Enums
