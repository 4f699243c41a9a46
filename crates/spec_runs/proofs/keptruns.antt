pub mod Steps
pub mod Runs
pub mod Chain
pub mod OpenRows
